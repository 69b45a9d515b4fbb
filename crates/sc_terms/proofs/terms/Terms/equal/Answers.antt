use Rattle.sc_terms.proofs.EqualValues.{equal_is}
use Rattle.sc_terms.proofs.FoldValues.{valued}
use Rattle.sc_terms.proofs.terms.Terms.equal.Goals as goal

pub returns-clause-value : goal.returns-clause-value
returns-clause-value c = valued _ _ _ _ (λ w. equal_is _ _ w) c.folded_equal.ensures.ok
