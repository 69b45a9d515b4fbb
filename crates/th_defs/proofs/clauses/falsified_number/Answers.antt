use Rattle.std.proofs.Common.{◌<◌, ◌∙◌, ℕ, sym, subst}
use Rattle.th_defs.proofs.LoopLaws.{few_kept, falsified_here}
use Rattle.th_defs.proofs.clauses.falsified_number.Goals as goal

pub overflow_add-number : goal.overflow_add-number
overflow_add-number c = record { fits = few_kept _ _ _ _ c.loop-clause.invariant.counted c.loop-clause-test.true c.clause_count-clause-end.type_inv }

pub returns-then-is_falsified : goal.returns-then-is_falsified
returns-then-is_falsified c =
    let below = subst (λ (m : ℕ). c.loop-clause.clause < m) (c.clause_count-clause-end.ensures c.args.problem.now) c.loop-clause-test.true in
    falsified_here _ _ below (sym c.is_tautology.ensures ∙ c.if-not-is_tautology.true) _ _ c.loop-clause.invariant.counted (sym c.is_falsified.ensures ∙ c.if-is_falsified.true)
