use Rattle.std.proofs.Common.{sym}
use Rattle.sc_logs.proofs.WordLaws.{hint_not_positive}
use Rattle.sc_logs.proofs.words.hint_of.Goals as goal

pub returns-in_default : goal.returns-in_default
returns-in_default c = hint_not_positive c.args.word.now c.in-Some.hint c.in-Some.ensures.0 c.in-Some.ensures.1 (sym (c.if-is_hint.ensures))
