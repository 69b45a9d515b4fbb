use Rattle.std.proofs.lemmas.Result.{on_ok_weaker}
use Rattle.sc_candidates.proofs.kins.join_kin.Goals as goal

pub returns : goal.returns
returns c = on_ok_weaker c.join_candidate.result (λ j. record { kin = _; are = c.first_kin-kin.ensures.are; joins = j }) c.join_candidate.ensures
