use Rattle.std.proofs.Common.{◌+◌, ◌-◌, length}
use Rattle.sc_propagation.specs.Trails.{free_count}
use Rattle.sc_propagation.specs.Visits.{AreSeen, MovesOn}
use Rattle.sc_propagation.proofs.trail.Trail.follow.Given as goal

abbrev pub invariant-literals : goal.invariant-literals
invariant-literals l = record {
  moves : MovesOn (length l.initial.self.cells.items) l.clauses l.initial.self l.initial.watches l.self l.watches;
  seen : AreSeen l.clauses l.self l.watches l.place;
}

abbrev pub decreases-literals : goal.decreases-literals
decreases-literals l = free_count l.self.cells.items + length l.self.lits.items - l.place
