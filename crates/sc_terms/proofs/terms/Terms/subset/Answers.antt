use Rattle.sc_terms.proofs.FoldValues.{valued, two_is}
use Rattle.sc_terms.proofs.terms.Terms.subset.Goals as goal

pub returns-clause-value : goal.returns-clause-value
returns-clause-value c = valued _ _ _ _ (λ w. two_is _ _ _ w) c.add.ensures.ok
