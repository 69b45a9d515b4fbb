use Rattle.th_equal.specs.Joining.{AreFirstLabels}
use Rattle.th_equal.proofs.joining.labels_at.Given as goal

abbrev pub invariant-loop-item : goal.invariant-loop-item
invariant-loop-item l = AreFirstLabels l.named.problem.now l.named.numbers.items l.labels l.item l.found.items
