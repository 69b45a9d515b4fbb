use Rattle.std.proofs.Common.{◌≤◌, ◌+◌, ℕ, Option, length, subst, sym, rules}
use Rattle.sc_propagation.proofs.VisitLaws.{all-alive, moves-farther, moves-nowhere}
use Rattle.sc_propagation.proofs.trail.Trail.follow.Goals as goal
use Rattle.sc_propagation.specs.Trails.{AreInCells}
use Rattle.sc_propagation.specs.Visits.{HasFollowed, IsWellWatched, MovesOn}

pub literals-init : goal.literals-init
literals-init c = record { moves = moves-nowhere _ c.args.clauses.now c.args.self.now c.args.watches.now c.requires.trail c.requires.watched; seen = c.requires.seen }

pub visit_watching-requires-clause-in_cells : goal.visit_watching-requires-clause-in_cells
visit_watching-requires-clause-in_cells c = subst (λ (m : ℕ). AreInCells m c.args.clauses.now) (sym c.literals.invariant.moves.goes_on.trail.sized) c.requires.in_cells

pub visit_watching-requires-clause-watched : goal.visit_watching-requires-clause-watched
visit_watching-requires-clause-watched c = subst (λ (m : ℕ). IsWellWatched m c.args.clauses.now c.literals.self c.literals.watches) (sym c.literals.invariant.moves.goes_on.trail.sized) c.literals.invariant.moves.watched

pub returns-in-Some-clause-moves : goal.returns-in-Some-clause-moves
returns-in-Some-clause-moves c =
    let n = length c.args.self.now.cells.items in
    let cs = c.args.clauses.now in
    let so_far = c.literals.invariant.moves in
    moves-farther n cs c.args.self.now c.args.watches.now c.literals.self c.literals.watches c.visit_watching.new.self c.visit_watching.new.watches so_far
    (subst (λ (m : ℕ). MovesOn m cs c.literals.self c.literals.watches c.visit_watching.new.self c.visit_watching.new.watches) so_far.goes_on.trail.sized c.in_ok-conflict.ensures.moves)

pub literals-preserved : goal.literals-preserved
literals-preserved c =
    let n = length c.args.self.now.cells.items in
    let cs = c.args.clauses.now in
    let s = c.literals.self in
    let w = c.literals.watches in
    let d = c.visit_watching.new.self in
    let v = c.visit_watching.new.watches in
    let so_far = c.literals.invariant.moves in
    let next : MovesOn n cs s w d v = subst (λ (m : ℕ). MovesOn m cs s w d v) so_far.goes_on.trail.sized c.in_ok-conflict.ensures.moves in
    record {
      moves = moves-farther n cs c.args.self.now c.args.watches.now s w d v so_far next;
      seen = subst (λ (r : Option ℕ). HasFollowed cs d v (c.literals.place + 1) r) c.in_default.is c.in_ok-conflict.ensures.done;
    }

pub returns-clause-done : goal.returns-clause-done
returns-clause-done c = let le : length c.literals.self.lits.items ≤ c.literals.place = search rules in all-alive c.args.clauses.now c.literals.self c.literals.watches c.literals.place c.literals.invariant.seen le
