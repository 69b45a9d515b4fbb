use Rattle.std.proofs.Common.{◌≤◌, ◌+◌}
use Rattle.sc_smtlib.specs.Marks.{AreMarked}
use Rattle.sc_smtlib.proofs.marks.subterm_marks.Given as goal

abbrev pub invariant-loop-left : goal.invariant-loop-left
invariant-loop-left l = AreMarked l.fn.terms l.goal l.left l.marks.items × (l.left ≤ l.goal + 1)

abbrev pub decreases-loop-left : goal.decreases-loop-left
decreases-loop-left l = l.left
