use Rattle.std.proofs.Common.{◌≡◌, [], replicate}
use Rattle.sc_propagation.proofs.lists.empty_lists.Given as goal

abbrev pub invariant-loop-atom : goal.invariant-loop-atom
invariant-loop-atom l = l.lists.items ≡ replicate l._atom []
