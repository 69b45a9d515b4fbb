use Rattle.sc_terms.proofs.DefaultValues.{default_is}
use Rattle.sc_terms.proofs.FoldValues.{has_value}
use Rattle.sc_terms.proofs.terms.Terms.default.Goals as goal

pub returns-in-Ok-clause-value : goal.returns-in-Ok-clause-value
returns-in-Ok-clause-value c = has_value _ _ _ _ (λ w. default_is _ w) c.in-Ok.ensures.ok

pub returns-in-Err-clause-err : goal.returns-in-Err-clause-err
returns-in-Err-clause-err c = c.take_back.ensures _ c.laws.ensures c.default_of.ensures.kept c.len-count.ensures
