use Rattle.std.proofs.Common.{◌≡◌, ℕ, length, get_or}
use Rattle.sc_falsified.proofs.chains.zeros.Given as goal

abbrev pub invariant-loop-item : goal.invariant-loop-item
invariant-loop-item l = record {
  sized : length l.zeros.items ≡ l._item;
  at : (i : ℕ) → get_or l.zeros.items i 0 ≡ 0;
}
