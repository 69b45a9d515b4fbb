use Rattle.sc_logs.proofs.LineLaws.{rule_none}
use Rattle.sc_logs.proofs.lines.rule_of.Goals as goal

pub returns-in_default : goal.returns-in_default
returns-in_default c = rule_none c.args.word.now c.in_default.ensures.cases.0
