use Rattle.std.proofs.Common.{◌⊎◌, ℕ, ◌+◌, ◌-◌, length}
use Rattle.sc_clauses.specs.Clauses.{Clause}
use Rattle.sc_propagation.specs.Lists.{places_of}
use Rattle.sc_propagation.specs.Steps.{At}
use Rattle.sc_propagation.specs.Visits.{IsSeen, IsWaiting, MovesOn}
use Rattle.sc_propagation.proofs.trail.Trail.visit_watching.Given as goal

abbrev pub invariant-loop-place : goal.invariant-loop-place
invariant-loop-place l = record {
  moves : MovesOn (length l.initial.self.cells.items) l.clauses l.initial.self l.initial.watches l.self l.watches;
  each : (i : ℕ) (c : Clause) → At l.clauses i c → IsSeen l.self l.watches (l.first + 1) i c ⊎ IsWaiting l.watches l.lit l.at i;
}

abbrev pub decreases-loop-place : goal.decreases-loop-place
decreases-loop-place l = length (places_of l.watches.lists l.lit) - l.at
