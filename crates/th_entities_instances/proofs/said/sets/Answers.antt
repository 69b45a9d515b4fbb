use Rattle.sc_rule_laws.specs.Entities.{en2}
use Rattle.sc_rule_instances.proofs.GivenLaws.{three_none}
use Rattle.th_entities_instances.proofs.said.sets.Goals as goal

pub returns-in_default : goal.returns-in_default
returns-in_default c = three_none c.args.problem.now c.args.x c.args.s c.args.z en2 c.in_default.ensures
