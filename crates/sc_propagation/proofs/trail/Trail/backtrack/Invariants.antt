use Rattle.std.proofs.Common.{◌≡◌, ◌≤◌, ℕ, length}
use Rattle.sc_propagation.specs.Trails.{IsTrail, true_before}
use Rattle.sc_propagation.proofs.trail.Trail.backtrack.Given as goal

abbrev pub invariant-back : goal.invariant-back
invariant-back l = record {
  trail : IsTrail (length l.fn.self.cells.items) l.clauses l.self.cells.items l.self.lits.items l.self.levels.items l.place;
  levels : l.self.levels ≡ l.initial.self.levels;
  kept : (q : ℕ) → q ≤ l.place → true_before l.self.cells.items q ≡ true_before l.fn.self.cells.items q;
}

abbrev pub decreases-back : goal.decreases-back
decreases-back l = length l.self.lits.items
