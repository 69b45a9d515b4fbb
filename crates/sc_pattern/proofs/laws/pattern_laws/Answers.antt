use Rattle.sc_pattern.proofs.TestLaws.{is_match_decides}
use Rattle.sc_pattern.proofs.laws.pattern_laws.Goals as goal

pub returns : goal.returns
returns c = is_match_decides
