use Rattle.std.proofs.lemmas.List.Elements.{recursion_from_All}
use Rattle.sc_ast.specs.declared.policy.Condition.{Condition}
use Rattle.sc_eval.specs.Written.{HasProperConstants}
use Rattle.sc_eval.proofs.ConditionLaws.{policy_proper}
use Rattle.sc_eval.proofs.constants.of_policy.Goals as goal

pub returns : goal.returns
returns c =
    policy_proper c.args.policy.now c.of_constraint.ensures c.of_action.ensures c.of_constraint-2.ensures
    (recursion_from_All (λ (x : Condition). HasProperConstants x.body) _ c.of_clauses.ensures)
