use Rattle.std.proofs.Common.{ℕ, Bool, length, subst, sym, arith, rules}
use Rattle.sc_propagation.proofs.VisitLaws.{each-end, each-step, moves-farther, moves-nowhere}
use Rattle.sc_propagation.proofs.trail.Trail.visit_each.Goals as goal
use Rattle.sc_propagation.specs.Trails.{AreInCells}
use Rattle.sc_propagation.specs.Visits.{HasVisited, IsWellWatched, MovesOn}

pub loop-place-init : goal.loop-place-init
loop-place-init c = record { moves = moves-nowhere _ c.args.clauses.now c.args.self.now c.args.watches.now c.requires.trail c.requires.watched; seen = λ i d lt at. absurd (omega arith) }

pub visit-requires-clause-in_cells : goal.visit-requires-clause-in_cells
visit-requires-clause-in_cells c = subst (λ (m : ℕ). AreInCells m c.args.clauses.now) (sym c.loop-place.invariant.moves.goes_on.trail.sized) c.requires.in_cells

pub visit-requires-clause-watched : goal.visit-requires-clause-watched
visit-requires-clause-watched c = subst (λ (m : ℕ). IsWellWatched m c.args.clauses.now c.loop-place.self c.loop-place.watches) (sym c.loop-place.invariant.moves.goes_on.trail.sized) c.loop-place.invariant.moves.watched

pub returns-then-branch-clause-moves : goal.returns-then-branch-clause-moves
returns-then-branch-clause-moves c =
    let n = length c.args.self.now.cells.items in
    let cs = c.args.clauses.now in
    let so_far = c.loop-place.invariant.moves in
    moves-farther n cs c.args.self.now c.args.watches.now c.loop-place.self c.loop-place.watches c.visit.new.self c.visit.new.watches so_far
    (subst (λ (m : ℕ). MovesOn m cs c.loop-place.self c.loop-place.watches c.visit.new.self c.visit.new.watches) so_far.goes_on.trail.sized c.in_ok-visit.ensures.moves)

pub loop-place-preserved : goal.loop-place-preserved
loop-place-preserved c =
    let n = length c.args.self.now.cells.items in
    let cs = c.args.clauses.now in
    let t = c.args.self.now in
    let s = c.loop-place.self in
    let w = c.loop-place.watches in
    let d = c.visit.new.self in
    let v = c.visit.new.watches in
    let k = c.loop-place.place in
    let so_far = c.loop-place.invariant.moves in
    let next : MovesOn n cs s w d v = subst (λ (m : ℕ). MovesOn m cs s w d v) so_far.goes_on.trail.sized c.in_ok-visit.ensures.moves in
    record {
      moves = moves-farther n cs t c.args.watches.now s w d v so_far next;
      seen = each-step n cs (length t.lits.items) s w d v k so_far.goes_on.longer next c.loop-place.invariant.seen (subst (λ (b : Bool). HasVisited cs d v k b) c.if-branch.false c.in_ok-visit.ensures.visited);
    }

pub returns-clause-visited : goal.returns-clause-visited
returns-clause-visited c = each-end c.args.clauses.now c.loop-place.self c.loop-place.watches (length c.args.self.now.lits.items) c.loop-place.place (search rules) c.loop-place.invariant.seen
