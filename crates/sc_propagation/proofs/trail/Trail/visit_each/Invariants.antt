use Rattle.std.proofs.Common.{ℕ, ◌<◌, length}
use Rattle.sc_clauses.specs.Clauses.{Clause}
use Rattle.sc_propagation.specs.Steps.{At}
use Rattle.sc_propagation.specs.Visits.{IsSeen, MovesOn}
use Rattle.sc_propagation.proofs.trail.Trail.visit_each.Given as goal

abbrev pub invariant-loop-place : goal.invariant-loop-place
invariant-loop-place l = record {
  moves : MovesOn (length l.initial.self.cells.items) l.clauses l.initial.self l.initial.watches l.self l.watches;
  seen : (i : ℕ) (c : Clause) → i < l.place → At l.clauses i c → IsSeen l.self l.watches (length l.initial.self.lits.items) i c;
}
