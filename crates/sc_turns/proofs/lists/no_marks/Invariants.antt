use Rattle.std.proofs.Common.{◌≡◌, replicate, false}
use Rattle.sc_turns.proofs.lists.no_marks.Given as goal

abbrev pub invariant-loop-place : goal.invariant-loop-place
invariant-loop-place l = l.marks.items ≡ replicate l._place false
