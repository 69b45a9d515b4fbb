use Rattle.sc_logs.proofs.WordLaws.{signs_none}
use Rattle.sc_logs.proofs.words.signs_of.Goals as goal

pub returns-in_default : goal.returns-in_default
returns-in_default c = signs_none c.args.word.now c.loop-byte.byte-index _ c.loop-byte-test.true c.in_default.ensures
