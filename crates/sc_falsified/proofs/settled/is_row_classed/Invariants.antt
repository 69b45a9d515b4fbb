use Rattle.std.proofs.Common.{◌≡◌, ◌<◌, ◌==◌, ℕ, get_or, Some}
use Rattle.sc_falsified.proofs.settled.is_row_classed.Given as goal

abbrev pub invariant-loop-a : goal.invariant-loop-a
invariant-loop-a g l = (i : ℕ) → i < l.a → g.E.Equalities.truth l.items i l.b ≡ Some (get_or l.labels i 0 == get_or l.labels l.b 0)
