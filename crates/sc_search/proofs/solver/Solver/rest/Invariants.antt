use Rattle.std.proofs.Common.{length}
use Rattle.sc_propagation.specs.Trails.{free_count}
use Rattle.sc_search.specs.Turns.{IsReady, IsKept}
use Rattle.sc_search.proofs.solver.Solver.rest.Given as goal

abbrev pub invariant-moves : goal.invariant-moves
invariant-moves l = record {
  ready : IsReady (length l.initial.self.trail.cells.items) l.self;
  kept : IsKept l.initial.self.clauses l.initial.self.steps.items l.self;
}

abbrev pub decreases-moves : goal.decreases-moves
decreases-moves l = free_count l.self.trail.cells.items
