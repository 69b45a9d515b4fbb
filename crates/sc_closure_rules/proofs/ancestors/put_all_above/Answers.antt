use Rattle.sc_term_definitions.proofs.MakingLaws.{puts_then}
use Rattle.sc_closure_rules.proofs.ancestors.put_all_above.Goals as goal

pub returns-clause-ok : goal.returns-clause-ok
returns-clause-ok c = puts_then _ _ _ _ _ _ _ _ c.in_ok-put_above.ensures.ok c.in_ok-put_of_actions.ensures.ok
