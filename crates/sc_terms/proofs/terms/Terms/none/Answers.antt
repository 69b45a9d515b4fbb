use Rattle.sc_terms.proofs.FoldValues.{valued, leaf_is}
use Rattle.sc_terms.proofs.terms.Terms.none.Goals as goal

pub returns-clause-value : goal.returns-clause-value
returns-clause-value c = valued _ _ _ _ (λ w. leaf_is _ w) c.add.ensures.ok
