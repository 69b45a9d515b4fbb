use Rattle.std.proofs.Common.{◌≡◌, ◌<◌, ◌+◌, ℕ, Bool, List, length, get_or, subst, sym, ap, ◌∙◌, arith, false}
use Rattle.std.proofs.lemmas.List.{get_or_default}
use Rattle.sc_propagation.proofs.VisitLaws.{moves-farther, moves-nowhere, placed-in-cells, sifted-moves, stays-false, waits-first, waits-last, waits-next}
use Rattle.sc_propagation.proofs.WatchLaws.{sifted-shorter}
use Rattle.sc_propagation.proofs.trail.Trail.visit_watching.Goals as goal
use Rattle.sc_propagation.specs.Lists.{places_of}
use Rattle.sc_propagation.specs.Trails.{AreInCells}
use Rattle.sc_propagation.specs.Visits.{HasVisited, IsWellWatched, MovesOn}

pub loop-place-init : goal.loop-place-init
loop-place-init c =
    let t = c.args.self.now in
    let cs = c.args.clauses.now in
    let w = c.args.watches.now in
    record {
      moves = moves-nowhere _ cs t w c.requires.trail c.requires.watched;
      each = waits-first _ cs t w c.args.first c.index.result.now c.negation-lit.result c.requires.watched.watching c.requires.within c.index.ensures c.negation-lit.ensures c.requires.seen;
    }

pub place_at-requires : goal.place_at-requires
place_at-requires c =
    let t = c.args.self.now in
    let within : c.negation-lit.result.atom < length t.cells.items = placed-in-cells _ c.args.clauses.now t c.args.first c.index.result.now c.negation-lit.result c.requires.trail c.requires.within c.index.ensures c.negation-lit.ensures in
    λ sign. let e = c.loop-place.invariant.moves.watched.watching.sized sign in omega arith

pub visit-requires-clause-in_cells : goal.visit-requires-clause-in_cells
visit-requires-clause-in_cells c = subst (λ (m : ℕ). AreInCells m c.args.clauses.now) (sym c.loop-place.invariant.moves.goes_on.trail.sized) c.requires.in_cells

pub visit-requires-clause-watched : goal.visit-requires-clause-watched
visit-requires-clause-watched c = subst (λ (m : ℕ). IsWellWatched m c.args.clauses.now c.loop-place.self c.loop-place.watches) (sym c.loop-place.invariant.moves.goes_on.trail.sized) c.loop-place.invariant.moves.watched

pub visit-requires-clause-within : goal.visit-requires-clause-within
visit-requires-clause-within c =
    let ps = places_of c.loop-place.watches.lists c.negation-lit.result in
    let here = c.in-Some.ensures in
    c.loop-place.invariant.moves.watched.watching.within c.negation-lit.result c.in-Some.place (c.loop-place.at, here.0, get_or_default ps c.loop-place.at c.in-Some.place 0 here.0 ∙ here.1)

pub returns-then-branch-clause-moves : goal.returns-then-branch-clause-moves
returns-then-branch-clause-moves c =
    let n = length c.args.self.now.cells.items in
    let cs = c.args.clauses.now in
    let so_far = c.loop-place.invariant.moves in
    moves-farther n cs c.args.self.now c.args.watches.now c.loop-place.self c.loop-place.watches c.visit.new.self c.visit.new.watches so_far
    (subst (λ (m : ℕ). MovesOn m cs c.loop-place.self c.loop-place.watches c.visit.new.self c.visit.new.watches) so_far.goes_on.trail.sized c.in_ok-visit.ensures.moves)

pub sift-at-requires-clause-atom : goal.sift-at-requires-clause-atom
sift-at-requires-clause-atom c =
    let t = c.args.self.now in
    let so_far = c.loop-place.invariant.moves in
    let within : c.negation-lit.result.atom < length t.cells.items = placed-in-cells _ c.args.clauses.now t c.args.first c.index.result.now c.negation-lit.result c.requires.trail c.requires.within c.index.ensures c.negation-lit.ensures in
    λ sign. let e = c.in_ok-visit.ensures.moves.watched.watching.sized sign in let f = so_far.goes_on.trail.sized in omega arith

pub sift-at-requires-clause-at : goal.sift-at-requires-clause-at
sift-at-requires-clause-at c =
    let n = length c.args.self.now.cells.items in
    let is_false = stays-false n c.args.clauses.now c.args.self.now c.loop-place.self c.args.first c.index.result.now c.negation-lit.result c.requires.trail c.loop-place.invariant.moves.goes_on c.requires.within c.index.ensures c.negation-lit.ensures in
    subst (λ (ps : List ℕ). c.loop-place.at < length ps) (sym (c.in_ok-visit.ensures.others.lists c.negation-lit.result is_false)) c.in-Some.ensures.0

pub sift-at-requires-clause-place : goal.sift-at-requires-clause-place
sift-at-requires-clause-place c =
    let n = length c.args.self.now.cells.items in
    let lit = c.negation-lit.result in
    let is_false = stays-false n c.args.clauses.now c.args.self.now c.loop-place.self c.args.first c.index.result.now lit c.requires.trail c.loop-place.invariant.moves.goes_on c.requires.within c.index.ensures c.negation-lit.ensures in
    ap (λ (ps : List ℕ). get_or ps c.loop-place.at 0) (c.in_ok-visit.ensures.others.lists lit is_false) ∙ c.in-Some.ensures.1

pub loop-place-smaller : goal.loop-place-smaller
loop-place-smaller c =
    let n = length c.args.self.now.cells.items in
    let lit = c.negation-lit.result in
    let is_false = stays-false n c.args.clauses.now c.args.self.now c.loop-place.self c.args.first c.index.result.now lit c.requires.trail c.loop-place.invariant.moves.goes_on c.requires.within c.index.ensures c.negation-lit.ensures in
    let same = c.in_ok-visit.ensures.others.lists lit is_false in
    let inside : c.loop-place.at < length (places_of c.visit.new.watches.lists lit) = subst (λ (ps : List ℕ). c.loop-place.at < length ps) (sym same) c.in-Some.ensures.0 in
    let less = sifted-shorter lit c.loop-place.at c.visit.new.watches c.sift-at.new.self c.sift-at.result inside c.sift-at.ensures in
    let e : length (places_of c.visit.new.watches.lists lit) ≡ length (places_of c.loop-place.watches.lists lit) = ap length same in
    omega arith

pub loop-place-preserved : goal.loop-place-preserved
loop-place-preserved c =
    let n = length c.args.self.now.cells.items in
    let cs = c.args.clauses.now in
    let t = c.args.self.now in
    let s = c.loop-place.self in
    let w = c.loop-place.watches in
    let d = c.visit.new.self in
    let v = c.visit.new.watches in
    let u = c.sift-at.new.self in
    let lit = c.negation-lit.result in
    let at = c.loop-place.at in
    let so_far = c.loop-place.invariant.moves in
    let next : MovesOn n cs s w d v = subst (λ (m : ℕ). MovesOn m cs s w d v) so_far.goes_on.trail.sized c.in_ok-visit.ensures.moves in
    let is_false = stays-false n cs t s c.args.first c.index.result.now lit c.requires.trail so_far.goes_on c.requires.within c.index.ensures c.negation-lit.ensures in
    let same = c.in_ok-visit.ensures.others.lists lit is_false in
    let inside : at < length (places_of v.lists lit) = subst (λ (ps : List ℕ). at < length ps) (sym same) c.in-Some.ensures.0 in
    let longer = so_far.goes_on.longer in
    let within : c.args.first < length t.lits.items = c.requires.within in
    let visited : HasVisited cs d v c.in-Some.place false = subst (λ (b : Bool). HasVisited cs d v c.in-Some.place b) c.if-branch.false c.in_ok-visit.ensures.visited in
    let sifted : MovesOn n cs d v d u = sifted-moves n cs d v u lit at c.sift-at.result inside next.goes_on.trail next.watched c.sift-at.ensures in
    record {
      moves = moves-farther n cs t c.args.watches.now d v d u (moves-farther n cs t c.args.watches.now s w d v so_far next) sifted;
      each = waits-next n cs s w d v lit (c.args.first + 1) at c.in-Some.place (omega arith) next c.in_ok-visit.ensures.others visited is_false (sym c.in-Some.ensures.1) c.loop-place.invariant.each u c.sift-at.result inside c.sift-at.ensures;
    }

pub returns-clause-done : goal.returns-clause-done
returns-clause-done c =
    let longer = c.loop-place.invariant.moves.goes_on.longer in
    let within : c.args.first < length c.args.self.now.lits.items = c.requires.within in
    waits-last c.args.clauses.now c.loop-place.self c.loop-place.watches c.negation-lit.result (c.args.first + 1) c.loop-place.at (omega arith) c.in_default.ensures c.loop-place.invariant.each
