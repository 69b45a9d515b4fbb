use Rattle.std.proofs.Common.{◌≡◌, ℕ, Bool, length, subst, sym, rules}
use Rattle.sc_propagation.proofs.VisitLaws.{moves-farther-ok, one-seen}
use Rattle.sc_propagation.proofs.trail.Trail.visit_one.Goals as goal
use Rattle.sc_propagation.specs.Trails.{AreInCells}
use Rattle.sc_propagation.specs.Visits.{HasVisited, IsWellWatched}

pub visit-requires-clause-within : goal.visit-requires-clause-within
visit-requires-clause-within c = c.requires.pending.within

pub follow-requires-clause-in_cells : goal.follow-requires-clause-in_cells
follow-requires-clause-in_cells c = subst (λ (m : ℕ). AreInCells m c.args.clauses.now) (sym c.in_ok-visit.ensures.moves.goes_on.trail.sized) c.requires.in_cells

pub follow-requires-clause-watched : goal.follow-requires-clause-watched
follow-requires-clause-watched c = subst (λ (m : ℕ). IsWellWatched m c.args.clauses.now c.visit.new.self c.visit.new.watches) (sym c.in_ok-visit.ensures.moves.goes_on.trail.sized) c.in_ok-visit.ensures.moves.watched

pub follow-requires-clause-seen : goal.follow-requires-clause-seen
follow-requires-clause-seen c =
    let cs = c.args.clauses.now in
    let t = c.args.self.now in
    let d = c.visit.new.self in
    let v = c.visit.new.watches in
    let place : c.len-place.result ≡ length t.lits.items = search rules in
    one-seen _ cs t c.args.watches.now d v c.args.one c.len-place.result place c.requires.pending c.in_ok-visit.ensures.moves (subst (λ (b : Bool). HasVisited cs d v c.args.one b) c.if-branch.false c.in_ok-visit.ensures.visited)

pub returns-clause-moves : goal.returns-clause-moves
returns-clause-moves c =
    let first = c.in_ok-visit.ensures.moves in
    moves-farther-ok c.follow.result _ _ c.args.clauses.now c.args.self.now c.args.watches.now c.visit.new.self c.visit.new.watches c.follow.new.self c.follow.new.watches first.goes_on.trail.sized first c.follow.ensures.moves
