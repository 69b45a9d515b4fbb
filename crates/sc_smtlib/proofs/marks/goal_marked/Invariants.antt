use Rattle.std.proofs.Common.{◌≡◌, false, replicate}
use Rattle.sc_smtlib.proofs.marks.goal_marked.Given as goal

abbrev pub invariant-loop-n : goal.invariant-loop-n
invariant-loop-n l = l.marks.items ≡ replicate l._n false
