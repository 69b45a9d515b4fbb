use Rattle.sc_rule_laws.specs.Entities.{en5}
use Rattle.sc_rule_instances.proofs.GivenLaws.{four_none, last_none}
use Rattle.th_entities_instances.proofs.said.through.Goals as goal

pub returns-in_default : goal.returns-in_default
returns-in_default c = four_none c.args.problem.now c.args.e c.args.f c.args.x c.args.u en5 c.in_default.ensures

pub returns-in_default-both : goal.returns-in_default-both
returns-in_default-both c = last_none c.args.problem.now c.args.e c.args.f c.args.x c.args.u en5 c.in_default-both.ensures
