use Rattle.std.proofs.lemmas.Result.{on_ok_weaker}
use Rattle.sc_candidates.proofs.JoinLaws.{joins_target}
use Rattle.sc_candidates.proofs.crowds.join_target.Goals as goal

pub put_target-requires : goal.put_target-requires
put_target-requires c = c.in_ok-place.ensures.within

pub returns : goal.returns
returns c = on_ok_weaker c.put_target.result (joins_target _ _ _ _ _ c.in_ok-place.ensures _ _ c.requires.target_in) c.put_target.ensures
