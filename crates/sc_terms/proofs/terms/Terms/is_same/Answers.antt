use Rattle.sc_terms.proofs.NumberLaws.{same_number}
use Rattle.sc_terms.proofs.terms.Terms.is_same.Goals as goal

pub returns : goal.returns
returns c = rw (← c.self.view_is) (same_number _ c.self.invariant.table _ _ (rw c.self.view_is c.requires.a_in) (rw c.self.view_is c.requires.b_in))
