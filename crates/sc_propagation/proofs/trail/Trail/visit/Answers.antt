use Rattle.std.proofs.Common.{inl}
use Rattle.sc_propagation.proofs.VisitLaws.{keeps-others, moves-nowhere}
use Rattle.sc_propagation.proofs.WatchingLaws.{watched-in-cells}
use Rattle.sc_propagation.proofs.trail.Trail.visit.Goals as goal

pub is_satisfied-requires-clause-in_cells : goal.is_satisfied-requires-clause-in_cells
is_satisfied-requires-clause-in_cells c = watched-in-cells _ c.args.clauses.now c.args.watches.now c.args.place c.requires.in_cells c.requires.watched.watching c.requires.within

pub returns-then-is_satisfied-clause-moves : goal.returns-then-is_satisfied-clause-moves
returns-then-is_satisfied-clause-moves c = moves-nowhere _ c.args.clauses.now c.args.self.now c.args.watches.now c.requires.trail c.requires.watched

pub returns-then-is_satisfied-clause-visited : goal.returns-then-is_satisfied-clause-visited
returns-then-is_satisfied-clause-visited c =
    let w = c.is_satisfied.ensures c.if-is_satisfied.true in
    λ d at. inl (w.0, c.requires.watched.watching.members c.args.place d w.0 at w.1, w.2)

pub returns-then-is_satisfied-clause-others : goal.returns-then-is_satisfied-clause-others
returns-then-is_satisfied-clause-others c = keeps-others c.args.self.now c.args.place c.args.watches.now
