use Rattle.std.proofs.Common.{◌≡◌, length}
use Rattle.sc_model_names.specs.Patterns.{same_pattern}
use Rattle.sc_model_names.proofs.patterns.same_pattern.Given as goal

abbrev pub invariant-loop-a : goal.invariant-loop-a
invariant-loop-a l = same_pattern l.left l.right ≡ same_pattern l.fn.pattern l.fn.other

abbrev pub decreases-loop-a : goal.decreases-loop-a
decreases-loop-a l = length l.left
