use Rattle.std.proofs.lemmas.Result.{on_ok_weaker}
use Rattle.sc_candidates.proofs.JoinLaws.{joins_candidate}
use Rattle.sc_candidates.proofs.crowds.join_candidate.Goals as goal

pub put_candidate-requires : goal.put_candidate-requires
put_candidate-requires c = c.in_ok-place.ensures.within

pub returns : goal.returns
returns c = on_ok_weaker c.put_candidate.result (joins_candidate _ _ _ _ _ c.in_ok-place.ensures _ _ c.requires.term_in _ c.is_value-value.ensures) c.put_candidate.ensures
