use Rattle.std.proofs.lemmas.Result.{on_ok_weaker}
use Rattle.sc_candidates.proofs.CrowdLoopLaws.{both_put}
use Rattle.sc_candidates.proofs.ancestors.put_both.Goals as goal

pub returns-clause-ok : goal.returns-clause-ok
returns-clause-ok c = on_ok_weaker c.put_entity-2.result (both_put _ _ _ _ _ _ _ _ c.requires.above_in c.requires.other_in c.in_ok-put_entity.ensures.ok) c.put_entity-2.ensures.ok
