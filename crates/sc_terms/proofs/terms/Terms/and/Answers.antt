use Rattle.sc_terms.proofs.FoldValues.{valued, and_is}
use Rattle.sc_terms.proofs.terms.Terms.and.Goals as goal

pub returns-clause-value : goal.returns-clause-value
returns-clause-value c = valued _ _ _ _ (λ w. and_is _ _ w) c.folded_and.ensures.ok
