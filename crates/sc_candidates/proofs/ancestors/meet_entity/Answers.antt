use Rattle.std.proofs.Common.{length}
use Rattle.std.proofs.lemmas.Result.{on_ok_weaker}
use Rattle.sc_candidates.proofs.CrowdLoopLaws.{crowds_within_later, entity_put}
use Rattle.sc_candidates.proofs.ancestors.meet_entity.Goals as goal

pub meet_ancestors-requires-clause-crowds_in : goal.meet_ancestors-requires-clause-crowds_in
meet_ancestors-requires-clause-crowds_in c = crowds_within_later (length c.args.terms.now) _ c.args.crowds.now c.in_ok-meet_entities.ensures.kept.longer c.requires.crowds_in

pub returns-clause-ok : goal.returns-clause-ok
returns-clause-ok c =
    on_ok_weaker c.meet_ancestors.result (entity_put _ _ _ _ _ _ c.args.all_above.now c.args.crowds.now _ c.requires.above_in c.requires.crowds_in c.in_ok-meet_entities.ensures.ok) c.meet_ancestors.ensures.ok
