use Rattle.std.proofs.Common.{◌<◌, ◌≤◌, length}
use Rattle.sc_row_tests.proofs.growth_tests.doubled_often.Given as goal

abbrev pub invariant-loop-round : goal.invariant-loop-round
invariant-loop-round l = (l.t < length l.terms) × (l.x < length l.terms) × (l.y < length l.terms) × (length l.fn.terms ≤ length l.terms)
