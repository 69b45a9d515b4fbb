use Rattle.sc_terms.proofs.FoldValues.{valued, choice_is}
use Rattle.sc_terms.proofs.terms.Terms.choice.Goals as goal

pub returns-clause-value : goal.returns-clause-value
returns-clause-value c = valued _ _ _ _ (λ w. choice_is _ _ _ w) c.folded_choice.ensures.ok
