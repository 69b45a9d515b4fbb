use Rattle.sc_terms.proofs.FoldValues.{valued}
use Rattle.sc_terms.proofs.RecordValues.{set_value}
use Rattle.sc_terms.proofs.SetLaws.{set_stands}
use Rattle.sc_terms.proofs.terms.Terms.set.Goals as goal

pub returns-clause-value : goal.returns-clause-value
returns-clause-value c = valued _ _ _ _ (λ w. set_value _ _ w) (set_stands _ _ _ _ _ _ c.in_ok-parts.ensures c.labelled_set.ensures.ok)
