use Rattle.sc_goal_laws.proofs.GoalsLaws.{goal_is_posed}
use Rattle.sc_goal_laws.proofs.laws.posed_goals.Goals as goal

pub returns : goal.returns
returns c = record { goal = goal_is_posed c.derivation_laws.ensures.literal c.derivation_laws.ensures.derived c.goal_laws.ensures.term }
