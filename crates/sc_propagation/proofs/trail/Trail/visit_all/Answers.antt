use Rattle.std.proofs.Common.{◌≡◌, ◌≤◌, ℕ, Option, length, subst, sym, arith, rules}
use Rattle.sc_propagation.proofs.VisitLaws.{moves-farther-ok}
use Rattle.sc_propagation.proofs.trail.Trail.visit_all.Goals as goal
use Rattle.sc_propagation.specs.Trails.{AreInCells}
use Rattle.sc_propagation.specs.Visits.{AreSeenFrom, HasVisitedEach, IsWellWatched}

pub follow-requires-clause-in_cells : goal.follow-requires-clause-in_cells
follow-requires-clause-in_cells c = subst (λ (m : ℕ). AreInCells m c.args.clauses.now) (sym c.in_ok-conflict.ensures.moves.goes_on.trail.sized) c.requires.in_cells

pub follow-requires-clause-watched : goal.follow-requires-clause-watched
follow-requires-clause-watched c = subst (λ (m : ℕ). IsWellWatched m c.args.clauses.now c.visit_each.new.self c.visit_each.new.watches) (sym c.in_ok-conflict.ensures.moves.goes_on.trail.sized) c.in_ok-conflict.ensures.moves.watched

pub follow-requires-clause-seen : goal.follow-requires-clause-seen
follow-requires-clause-seen c =
    let cs = c.args.clauses.now in
    let t = c.args.self.now in
    let d = c.visit_each.new.self in
    let v = c.visit_each.new.watches in
    let place : c.len-place.result ≡ length t.lits.items = search rules in
    let visited : AreSeenFrom cs d v (length t.lits.items) = subst (λ (r : Option ℕ). HasVisitedEach cs d v (length t.lits.items) r) c.in_default.is c.in_ok-conflict.ensures.visited in
    let longer : length t.lits.items ≤ length d.lits.items = c.in_ok-conflict.ensures.moves.goes_on.longer in
    record { bounded = omega arith; each = subst (λ (p : ℕ). AreSeenFrom cs d v p) (sym place) visited }

pub returns-clause-moves : goal.returns-clause-moves
returns-clause-moves c =
    let first = c.in_ok-conflict.ensures.moves in
    moves-farther-ok c.follow.result _ _ c.args.clauses.now c.args.self.now c.args.watches.now c.visit_each.new.self c.visit_each.new.watches c.follow.new.self c.follow.new.watches first.goes_on.trail.sized first c.follow.ensures.moves
