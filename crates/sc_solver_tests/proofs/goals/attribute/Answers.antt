use Rattle.sc_solver_tests.proofs.GoalLaws.{attribute_goal}
use Rattle.sc_solver_tests.proofs.goals.attribute.Goals as goal

pub returns-clause-goal : goal.returns-clause-goal
returns-clause-goal c =
    attribute_goal _ _ _ _ _ _ _ _ _ _ c.in-Some.ensures c.in-Some-get.ensures.lookup.3.0 c.in-Some-get.ensures.lookup.1 c.in_ok-sort_of.ensures c.in_ok-context.ensures.ok c.in_ok-try_clone.ensures c.in_ok-number.ensures.ok
