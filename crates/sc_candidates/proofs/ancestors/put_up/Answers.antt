use Rattle.std.proofs.lemmas.Result.{on_ok_weaker}
use Rattle.sc_candidates.proofs.AncestorLaws.{puts_up, puts_no_up, read_some}
use Rattle.sc_candidates.proofs.ancestors.put_up.Goals as goal

pub put_among-requires-clause-entity_in : goal.put_among-requires-clause-entity_in
put_among-requires-clause-entity_in c = read_some _ _ _ c.up_entity.ensures.within c.in-Some.is

pub returns-in-Some-clause-ok : goal.returns-in-Some-clause-ok
returns-in-Some-clause-ok c = on_ok_weaker c.put_among.result (puts_up _ _ _ _ _ _ _ _ _ c.up_entity.ensures.is c.in-Some.is) c.put_among.ensures.ok

pub returns-in-None-clause-ok : goal.returns-in-None-clause-ok
returns-in-None-clause-ok c = puts_no_up _ _ _ _ _ _ c.up_entity.ensures.is c.in-None.is
