use Rattle.std.proofs.Common.{◌<◌, ◌∙◌, ℕ, sym, subst}
use Rattle.th_defs.proofs.LoopLaws.{place_here}
use Rattle.th_defs.proofs.clauses.place_of.Goals as goal

pub returns-then-left-eq1 : goal.returns-then-left-eq1
returns-then-left-eq1 c =
    let below = subst (λ (m : ℕ). c.loop-clause.clause < m) (c.clause_count-clause-end.ensures c.args.problem.now) c.loop-clause-test.true in
    (below, place_here _ _ below (sym c.is_tautology.ensures ∙ c.if-not-is_tautology.true) _ _ c.if-left-eq1.true c.loop-clause.invariant.counted)
