use Rattle.sc_closure.proofs.TakesLaws.{takes_roles}
use Rattle.sc_closure.proofs.taking.take_roles.Goals as goal

pub returns-clause-ok : goal.returns-clause-ok
returns-clause-ok c = takes_roles _ _ _ _ _ _ _ _ _ _ c.requires.within c.in_ok-take_place.ensures.ok c.in_ok-take_part.ensures.ok
