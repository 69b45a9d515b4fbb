use Rattle.sc_pattern.proofs.MatchLaws.{none_left}
use Rattle.sc_pattern.proofs.matching.is_end.Goals as goal

pub returns : goal.returns
returns c = none_left c.args.text.now c.is_empty.result c.utf8.text c.is_empty.ensures
