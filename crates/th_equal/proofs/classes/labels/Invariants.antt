use Rattle.th_equal.specs.Classes.{AreFirstAlong}
use Rattle.th_equal.proofs.classes.labels.Given as goal

abbrev pub invariant-loop-item : goal.invariant-loop-item
invariant-loop-item l = AreFirstAlong l.parents l.labels.items l.item
