use Rattle.sc_candidates.proofs.AncestorLaws.{up_some, up_none}
use Rattle.sc_candidates.proofs.ancestors.up_entity.Goals as goal

pub returns-in-Some-clause-is : goal.returns-in-Some-clause-is
returns-in-Some-clause-is c = up_some _ _ _ _ _ _ c.entity_under.ensures.is c.in-Some.is c.unlisted_entity.ensures.is

pub returns-in-None-clause-is : goal.returns-in-None-clause-is
returns-in-None-clause-is c = up_none _ _ _ _ c.entity_under.ensures.is c.in-None.is
