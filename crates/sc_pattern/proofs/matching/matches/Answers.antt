use Rattle.sc_pattern.proofs.MatchLaws.{as_given}
use Rattle.sc_pattern.proofs.TestLaws.{match_is}
use Rattle.sc_pattern.proofs.matching.matches.Goals as goal

pub returns-clause-decides : goal.returns-clause-decides
returns-clause-decides c = as_given _ _ _ c.parts.ensures c.matches_parts.ensures

pub returns-clause-value : goal.returns-clause-value
returns-clause-value c = match_is _ _ _ _ c.parts.ensures c.matches_parts.ensures
