use Rattle.std.proofs.Common.{◌∙◌}
use Rattle.sc_terms.proofs.DefaultValues.{held_is}
use Rattle.sc_terms.proofs.FoldValues.{valued, one_is}
use Rattle.sc_terms.proofs.terms.Terms.held.Goals as goal

pub returns-clause-value : goal.returns-clause-value
returns-clause-value c = valued _ _ _ _ (λ w. held_is _ w ∙ one_is _ _ w) c.folded_held.ensures.ok
