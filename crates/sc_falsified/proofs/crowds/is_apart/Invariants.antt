use Rattle.std.proofs.Common.{◌≡◌, ◌<◌, ℕ, get_or, Some, false}
use Rattle.sc_falsified.proofs.crowds.is_apart.Given as goal

abbrev pub invariant-loop-c : goal.invariant-loop-c
invariant-loop-c g l = (k d : ℕ) → k < l.c-index → g.E.Equalities.truth l.items (get_or l.chosen k d) l.item ≡ Some false
