use Rattle.std.proofs.Common.{◌≡◌, ◌+◌, ◌≤◌, length, nat_eq}
use Rattle.std.specs.List.{common_prefix_len}
use Rattle.sc_smtlib_words.proofs.cutting.common_front.Given as goal

-- what is left has the rest in common
abbrev pub invariant-loop-x : goal.invariant-loop-x
invariant-loop-x l = record {
  whole : l.count + common_prefix_len nat_eq l.left l.right ≡ common_prefix_len nat_eq l.fn.a l.fn.b;
  room : l.count + length l.left ≤ length l.fn.a;
}

abbrev pub decreases-loop-x : goal.decreases-loop-x
decreases-loop-x l = length l.left
