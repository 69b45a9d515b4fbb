use Rattle.std.proofs.Common.{◌≡◌, length}
use Rattle.th_strings.proofs.scarce.same_signs.Given as goal

abbrev pub invariant-loop-one : goal.invariant-loop-one
invariant-loop-one l = l.left ≡ l.right → l.fn.some ≡ l.fn.others

abbrev pub decreases-loop-one : goal.decreases-loop-one
decreases-loop-one l = length l.left
