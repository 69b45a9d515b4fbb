use Rattle.std.proofs.Common.{◌<◌, length}
use denote.Shadow.{shadow}
use denote.Text.{Utf8}
use Rattle.th_entities_equal_tests.proofs.entities.names.is_place.Given as goal

abbrev pub invariant-loop : goal.invariant-loop
invariant-loop l = shadow (Utf8 l.rest) × (l.term < length l.problem.nodes)
