use Rattle.std.proofs.Common.{◌-◌, length}
use Rattle.sc_search.specs.Turns.{IsSearching}
use Rattle.sc_search.proofs.solver.Solver.find.Given as goal

abbrev pub invariant-turns : goal.invariant-turns
invariant-turns g l =
    IsSearching (length l.initial.self.trail.cells.items - 1) (g.S.Source.has_instance l.source) (g.S.Source.clause_of l.source) l.initial.self.clauses l.fn.budget l.self

abbrev pub decreases-turns : goal.decreases-turns
decreases-turns g l = l.fn.budget - length l.self.steps.items
