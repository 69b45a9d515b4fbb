use Rattle.sc_terms.proofs.FirstLaws.{first_is}
use Rattle.sc_terms.proofs.terms.Terms.new.Goals as goal

pub returns-clause-of_true : goal.returns-clause-of_true
returns-clause-of_true c =
    (first_is _ _ _ _ _ c.empty-terms.ensures c.in_ok-truth.ensures.grows c.in_ok-truth.ensures.ok c.in_ok-truth-2.ensures.kept c.in_ok-truth-2.ensures.grows c.in_ok-truth-2.ensures.ok).of_true

pub returns-clause-of_false : goal.returns-clause-of_false
returns-clause-of_false c =
    (first_is _ _ _ _ _ c.empty-terms.ensures c.in_ok-truth.ensures.grows c.in_ok-truth.ensures.ok c.in_ok-truth-2.ensures.kept c.in_ok-truth-2.ensures.grows c.in_ok-truth-2.ensures.ok).of_false

pub returns-clause-size : goal.returns-clause-size
returns-clause-size c =
    (first_is _ _ _ _ _ c.empty-terms.ensures c.in_ok-truth.ensures.grows c.in_ok-truth.ensures.ok c.in_ok-truth-2.ensures.kept c.in_ok-truth-2.ensures.grows c.in_ok-truth-2.ensures.ok).size
