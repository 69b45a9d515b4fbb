use Rattle.sc_terms.proofs.FoldValues.{valued, one_is}
use Rattle.sc_terms.proofs.terms.Terms.ancestors.Goals as goal

pub returns-clause-value : goal.returns-clause-value
returns-clause-value c = valued _ _ _ _ (λ w. one_is _ _ w) c.add.ensures.ok
