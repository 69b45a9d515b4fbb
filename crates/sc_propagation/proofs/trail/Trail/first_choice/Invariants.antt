use Rattle.std.proofs.Common.{ℕ, ◌<◌}
use Rattle.sc_propagation.proofs.trail.Trail.first_choice.Given as goal
use Rattle.sc_propagation.specs.Trails.{IsChoice}

abbrev pub invariant-loop-atom : goal.invariant-loop-atom
invariant-loop-atom l = (a : ℕ) → a < l.atom → ¬ IsChoice l.self.cells.items a
