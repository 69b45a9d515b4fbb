use Rattle.std.proofs.Common.{◌≡◌, drop}
use Rattle.sc_eval.specs.Entities.{has_path}
use Rattle.sc_eval.proofs.entities.has_path.Given as goal

abbrev pub invariant-loop-name : goal.invariant-loop-name
invariant-loop-name l = has_path (drop l.name-index l.names) l.world l.at ≡ has_path l.names l.world l.x
