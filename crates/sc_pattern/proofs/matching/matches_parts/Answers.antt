use Rattle.sc_pattern.proofs.MatchLaws.{run_is_all, run_then_star, iff_trans, iff_sym}
use Rattle.sc_pattern.proofs.matching.matches_parts.Goals as goal

pub returns-in-None : goal.returns-in-None
returns-in-None c = iff_trans c.is_end.ensures (iff_sym (run_is_all _ _ _ _ c.in-Some.ensures c.in-None.ensures.cases))

pub returns-in-Some-split_first : goal.returns-in-Some-split_first
returns-in-Some-split_first c =
    iff_trans c.matches_after_star.ensures (iff_sym (run_then_star _ _ _ _ _ _ c.in-Some.ensures c.in-Some-split_first.ensures.cases.0))
