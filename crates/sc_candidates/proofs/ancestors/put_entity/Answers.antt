use Rattle.std.proofs.lemmas.Result.{on_ok_weaker}
use Rattle.sc_candidates.proofs.AncestorLaws.{puts_entity, puts_no_entity, read_some}
use Rattle.sc_candidates.proofs.ancestors.put_entity.Goals as goal

pub put_member-requires-clause-term_in : goal.put_member-requires-clause-term_in
put_member-requires-clause-term_in c = read_some _ _ _ c.entity_under.ensures.within c.in-Some.is

pub returns-in-Some-clause-ok : goal.returns-in-Some-clause-ok
returns-in-Some-clause-ok c = on_ok_weaker c.put_member.result (puts_entity _ _ _ _ _ _ _ _ c.entity_under.ensures.is c.in-Some.is) c.put_member.ensures.ok

pub returns-in-None-clause-ok : goal.returns-in-None-clause-ok
returns-in-None-clause-ok c = puts_no_entity _ _ _ _ _ c.entity_under.ensures.is c.in-None.is
