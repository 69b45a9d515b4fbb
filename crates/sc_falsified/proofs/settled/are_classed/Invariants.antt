use Rattle.std.proofs.Common.{◌≡◌, ◌<◌, ◌==◌, ℕ, get_or, Some}
use Rattle.sc_falsified.proofs.settled.are_classed.Given as goal

abbrev pub invariant-loop-b : goal.invariant-loop-b
invariant-loop-b g l = (i j : ℕ) → i < j → j < l.b → g.E.Equalities.truth l.items i j ≡ Some (get_or l.labels i 0 == get_or l.labels j 0)
