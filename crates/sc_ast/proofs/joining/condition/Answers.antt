use Rattle.std.proofs.Common.{◌≡◌, fold, map, IfOk, subst, ap, ◌∙◌}
use Rattle.sc_ast.specs.declared.expr.Expr.{Expr}
use Rattle.sc_ast.specs.declared.expr.Variable.TheVariants.{Principal}
use Rattle.sc_ast.specs.Conditions.{joined, clause, scope_part}
use Rattle.sc_ast.proofs.ConditionsLaws.{condition-parts}
use Rattle.sc_ast.proofs.joining.condition.Goals as goal

pub returns : goal.returns
returns c =
    subst (λ (x : Expr). IfOk c.with_clauses.result (λ e. e ≡ x))
    (ap (λ cs. fold joined c.in_ok-asked-3.asked (map clause cs)) c.as_slice.ensures
    ∙ condition-parts c.args.policy.now c.in_ok-asked.asked c.in_ok-asked-2.asked c.in_ok-asked-3.asked (c.in_ok-asked.ensures ∙ ap (λ x. fold joined x (scope_part Principal c.args.policy.now.principal)) c.in_ok-start.ensures) (c.in_ok-asked-2.ensures) (c.in_ok-asked-3.ensures))
    c.with_clauses.ensures
