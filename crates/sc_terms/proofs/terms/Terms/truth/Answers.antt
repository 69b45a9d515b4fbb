use Rattle.sc_terms.proofs.FoldValues.{valued, truth_is}
use Rattle.sc_terms.proofs.terms.Terms.truth.Goals as goal

pub returns-clause-value : goal.returns-clause-value
returns-clause-value c = valued _ _ _ _ (λ w. truth_is _ w) c.add.ensures.ok
