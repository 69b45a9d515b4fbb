use Rattle.std.proofs.Common.{◌∙◌}
use Rattle.sc_terms.proofs.FoldValues.{valued, bit_is, one_is}
use Rattle.sc_terms.proofs.terms.Terms.bit.Goals as goal

pub returns-clause-value : goal.returns-clause-value
returns-clause-value c = valued _ _ _ _ (λ w. bit_is _ _ w ∙ one_is _ _ w) c.folded_bit.ensures.ok
