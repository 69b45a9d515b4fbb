use Rattle.sc_rule_laws.specs.Equal.{eq1}
use Rattle.sc_rule_instances.proofs.GivenLaws.{three_none}
use Rattle.th_equal.proofs.said.chain.Goals as goal

pub returns-in_default : goal.returns-in_default
returns-in_default c = three_none c.args.problem.now c.args.a c.args.b c.args.c eq1 c.in_default.ensures
