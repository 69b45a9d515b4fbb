use Rattle.sc_turns.proofs.TurningLaws.{one_more_place}
use Rattle.sc_turns.proofs.lists.all_places.Goals as goal

pub loop-place-preserved : goal.loop-place-preserved
loop-place-preserved c = one_more_place _ _ _ c.loop-place.invariant c.in_ok-push.ensures.items
