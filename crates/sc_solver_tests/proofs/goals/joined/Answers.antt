use Rattle.std.proofs.lemmas.Result.{IfOk-weaker}
use Rattle.sc_solver_tests.proofs.GoalLaws.{equal_goal}
use Rattle.sc_solver_tests.proofs.goals.joined.Goals as goal

pub returns-in_default-clause-goal : goal.returns-in_default-clause-goal
returns-in_default-clause-goal c = IfOk-weaker c.equal.result _ _ (λ n h. equal_goal _ _ _ _ _ _ c.requires.left c.requires.right h) c.equal.ensures.ok
