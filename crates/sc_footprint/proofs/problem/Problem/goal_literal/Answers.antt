use Rattle.std.proofs.Common.{◌<◌, ℕ, length, sym, ap, subst}
use Rattle.sc_footprint.specs.Problems.{Posed}
use Rattle.sc_footprint.proofs.problem.Problem.goal_literal.Goals as goal

pub literal-requires : goal.literal-requires
literal-requires c =
    subst (λ (n : ℕ). n < length c.args.self.now.nodes) (sym (ap (λ (p : Posed). p.goal) c.self.view_is))
    (subst (λ (p : Posed). p.goal < length p.nodes) c.self.view_is c.self.invariant.posed.goal_within)
