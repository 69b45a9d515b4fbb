use Rattle.sc_terms.proofs.TableLaws.{taken_back}
use Rattle.sc_terms.proofs.SortingLaws.{sorted_front}
use Rattle.sc_terms.proofs.terms.Terms.take_back.Goals as goal

pub invariant_of-self : goal.invariant_of-self
invariant_of-self c = rw (c.truncate.ensures.keys, c.truncate-2.ensures.items) (sorted_front _ _ _ c.self.invariant)

pub returns : goal.returns
returns c = λ xs t k e. taken_back xs _ _ _ c.truncate.ensures.keys c.self.invariant.table t (rw c.self.view_is k) e
