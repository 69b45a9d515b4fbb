use Rattle.sc_goal.specs.Goals.{all_compiled}
use Rattle.sc_goal.proofs.GoalsLaws.{both_some}
use Rattle.sc_goal.proofs.RightLaws.{goal_is_right}
use Rattle.sc_goal.proofs.TermsLaws.{goal_is_term}
use Rattle.sc_goal.proofs.PosedLaws.{all_are_compiled}
use Rattle.sc_goal.proofs.laws.goal_laws.Goals as goal

pub returns : goal.returns
returns c = record {
  right = goal_is_right c.compile_laws.ensures.policies c.value_laws.ensures.negation c.value_laws.ensures.both c.value_laws.ensures.equation c.standing_laws.ensures.allow c.standing_laws.ensures.any_error;
  term = λ s env lits q a b t setting first second e.
      goal_is_term c.made_laws.ensures.negation c.made_laws.ensures.both c.made_laws.ensures.equation c.standing_terms.ensures.allow c.standing_terms.ensures.any_error s env lits c.compile_laws.ensures.policy_terms setting
      q a b t first second e;
  posed = λ s env ps typed has. all_are_compiled s env has ps typed;
  both = λ s env q a b first second. both_some q (all_compiled s env a) (all_compiled s env b) first second;
}
