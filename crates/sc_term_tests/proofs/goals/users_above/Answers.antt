use Rattle.std.proofs.lemmas.Result.{IfOk-weaker}
use Rattle.sc_test_goals.proofs.GoalLaws.{principal_plain, ancestors_plain}
use Rattle.sc_term_tests.proofs.goals.users_above.Goals as goal

pub returns-clause-plain : goal.returns-clause-plain
returns-clause-plain c =
    IfOk-weaker c.ancestors.result _ _ (λ n s. ancestors_plain _ _ c.in_ok-principal.principal n _ (principal_plain _ _ _ c.in_ok-principal.ensures.ok) s) c.ancestors.ensures.ok
