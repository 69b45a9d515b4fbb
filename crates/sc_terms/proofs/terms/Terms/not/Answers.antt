use Rattle.sc_terms.proofs.FoldValues.{valued, not_is}
use Rattle.sc_terms.proofs.terms.Terms.not.Goals as goal

pub returns-clause-value : goal.returns-clause-value
returns-clause-value c = valued _ _ _ _ (λ w. not_is _ w) c.folded_not.ensures.ok
