use Rattle.std.proofs.Common.{◌≡◌, ◌<◌, ◌≤◌, ℕ, length, get_or, take}
use Rattle.sc_falsified.specs.Chains.{count_of}
use Rattle.sc_falsified.proofs.chains.sizes.Given as goal

abbrev pub invariant-loop-item : goal.invariant-loop-item
invariant-loop-item l = record {
  sized : length l.labels ≤ length l.sizes.items;
  at : (k : ℕ) → k < length l.sizes.items → get_or l.sizes.items k 0 ≡ count_of (take l.item l.labels) k;
}
