use Rattle.std.proofs.lemmas.Result.{on_ok_weaker}
use Rattle.sc_closure.proofs.TakesLaws.{takes_nothing, takes_place}
use Rattle.sc_closure.proofs.taking.take_place.Goals as goal

pub returns-in-Named-clause-ok : goal.returns-in-Named-clause-ok
returns-in-Named-clause-ok c = on_ok_weaker c.take_named.result (takes_place _ _ _ _ _ _ _ _ _ _ c.in-Named.is c.place_of.ensures c.sort.ensures) c.take_named.ensures.ok

pub returns-in-Set-clause-ok : goal.returns-in-Set-clause-ok
returns-in-Set-clause-ok c = on_ok_weaker c.take_set.result (takes_place _ _ _ _ _ _ _ _ _ _ c.in-Set.is c.place_of.ensures c.sort.ensures) c.take_set.ensures.ok

pub returns-in-Neither-clause-ok : goal.returns-in-Neither-clause-ok
returns-in-Neither-clause-ok c = takes_place _ _ _ _ _ _ _ _ _ _ c.in-Neither.is c.place_of.ensures c.sort.ensures (takes_nothing _ _ _ c.requires.are)
