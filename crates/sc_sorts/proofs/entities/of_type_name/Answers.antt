use Rattle.std.proofs.Common.{rules}
use Rattle.sc_sorts.proofs.EntitiesLaws.{goes_on, at_end}
use Rattle.sc_sorts.proofs.entities.of_type_name.Goals as goal

pub loop-uid-preserved : goal.loop-uid-preserved
loop-uid-preserved c =
    goes_on _ _ c.in-Some.uid.now c.loop-uid.rest.now c.in-Some.later.now _ _ (search rules) c.in_ok-put_of_type.ensures c.loop-uid.invariant

pub returns : goal.returns
returns c = at_end _ _ c.loop-uid.rest.now _ (search rules) c.loop-uid.invariant
