use Rattle.sc_closure_rules.proofs.LinkingLaws.{own_some, own_none}
use Rattle.sc_closure_rules.proofs.places.are_own.Goals as goal

pub returns-in-Some : goal.returns-in-Some
returns-in-Some c = own_some _ _ _ _ _ _ c.node.ensures.stands c.node-2.ensures.stands c.owners_of.ensures _ _ _ c.in-Some.is c.is_one_sort.ensures

pub returns-in-None : goal.returns-in-None
returns-in-None c = own_none _ _ _ _ _ _ c.node.ensures.stands c.node-2.ensures.stands c.owners_of.ensures c.in-None.is
