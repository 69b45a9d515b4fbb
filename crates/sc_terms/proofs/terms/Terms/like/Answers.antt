use Rattle.std.proofs.Common.{◌∙◌}
use Rattle.sc_terms.proofs.FoldValues.{valued, like_is, one_is}
use Rattle.sc_terms.proofs.terms.Terms.like.Goals as goal

pub returns-clause-value : goal.returns-clause-value
returns-clause-value c = valued _ _ _ _ (λ w. like_is _ _ w ∙ one_is _ _ w) c.folded_like.ensures.ok
