use Rattle.std.proofs.Common.{◌≡◌, ◌+◌, ℕ, length, subst, ap, ◌∙◌, arith}
use Rattle.sc_propagation.proofs.TrailLaws.{trail-empty}
use Rattle.sc_propagation.proofs.WatchingLaws.{unset-watching}
use Rattle.sc_search.proofs.solver.Solver.new.Goals as goal
use Rattle.sc_propagation.specs.Watches.{AreUnset}

pub returns-clause-watched : goal.returns-clause-watched
returns-clause-watched c =
    let none : length c.in_ok-trail.trail.levels.items ≡ 0 = ap length c.in_ok-trail.ensures.levels in
    record {
      watching = unset-watching (c.args.atoms + 1) c.args.given.now c.in_ok-watches.watches (subst (λ (k : ℕ). AreUnset (c.args.atoms + 1) k c.in_ok-watches.watches) (c.len.ensures ∙ ap length c.in_ok-clauses.ensures) c.in_ok-watches.ensures);
      alive = λ k lt. absurd (omega arith);
    }

pub returns-clause-trail : goal.returns-clause-trail
returns-clause-trail c =
    let made = c.in_ok-trail.ensures in
    trail-empty (c.args.atoms + 1) c.args.given.now _ _ _ made.cells made.lits made.levels
