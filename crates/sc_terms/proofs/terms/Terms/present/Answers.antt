use Rattle.std.proofs.Common.{◌∙◌}
use Rattle.sc_terms.proofs.FoldValues.{valued, present_is, one_is}
use Rattle.sc_terms.proofs.terms.Terms.present.Goals as goal

pub returns-clause-value : goal.returns-clause-value
returns-clause-value c = valued _ _ _ _ (λ w. present_is _ w ∙ one_is _ _ w) c.folded_present.ensures.ok
