use Rattle.sc_terms.proofs.RecordValues.{valued_where, field_is}
use Rattle.sc_terms.proofs.terms.Terms.field.Goals as goal

pub returns-clause-value : goal.returns-clause-value
returns-clause-value c = valued_where _ _ _ _ _ (λ w k. field_is _ _ w k) c.folded_field.ensures.ok
