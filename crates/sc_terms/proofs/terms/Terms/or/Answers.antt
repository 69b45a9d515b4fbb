use Rattle.sc_terms.proofs.FoldValues.{valued, or_is}
use Rattle.sc_terms.proofs.terms.Terms.or.Goals as goal

pub returns-clause-value : goal.returns-clause-value
returns-clause-value c = valued _ _ _ _ (λ w. or_is _ _ w) c.folded_or.ensures.ok
