use Rattle.std.proofs.Common.{◌≡◌, length}
use Rattle.sc_model_names.specs.Tables.{same_signs}
use Rattle.sc_model_names.proofs.table.same_signs.Given as goal

abbrev pub invariant-loop-a : goal.invariant-loop-a
invariant-loop-a l = same_signs l.left l.right ≡ same_signs l.fn.signs l.fn.others

abbrev pub decreases-loop-a : goal.decreases-loop-a
decreases-loop-a l = length l.left
