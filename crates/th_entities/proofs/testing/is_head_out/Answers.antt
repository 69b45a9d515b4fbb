use Rattle.sc_rule_instances.specs.Instances.{entity_said}
use Rattle.th_entities.proofs.PruneLaws.{head_of}
use Rattle.th_entities.proofs.testing.is_head_out.Goals as goal

pub returns : goal.returns
returns c = head_of c.args.problem.now c.args.m.now (entity_said c.args.problem.now c.args.rule) c.in-Some.count _ _ c.in-Some.ensures c.if-count-eq0.false c.literal.ensures c.is_out.ensures
