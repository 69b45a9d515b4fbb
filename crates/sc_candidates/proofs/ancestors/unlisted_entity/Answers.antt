use Rattle.sc_candidates.proofs.AncestorLaws.{unlisted_some, unlisted_none, then_within, read_some}
use Rattle.sc_candidates.proofs.ancestors.unlisted_entity.Goals as goal

pub returns-in-Some-clause-within : goal.returns-in-Some-clause-within
returns-in-Some-clause-within c = then_within _ _ _ _ c.then_some.ensures (read_some _ _ _ c.descendant.ensures.within c.in-Some.is)

pub returns-in-Some-clause-is : goal.returns-in-Some-clause-is
returns-in-Some-clause-is c = unlisted_some _ _ _ _ _ _ c.descendant.ensures.is c.in-Some.is c.is_unlisted.ensures c.then_some.ensures

pub returns-in-None-clause-is : goal.returns-in-None-clause-is
returns-in-None-clause-is c = unlisted_none _ _ _ c.descendant.ensures.is c.in-None.is
