use Rattle.th_equal.specs.Naming.{AreNamedUpTo}
use Rattle.th_equal.proofs.named.named_numbers.Given as goal

abbrev pub invariant-loop-place : goal.invariant-loop-place
invariant-loop-place l = AreNamedUpTo l.problem l.place l.numbers.items
