use Rattle.th_entities.proofs.TheoryLaws.{has_some, has_none}
use Rattle.th_entities.proofs.theory.EntitiesTheory.accepts.Goals as goal

pub returns-in-Some-clause-decides : goal.returns-in-Some-clause-decides
returns-in-Some-clause-decides c = rw c.is_instance.ensures (has_some c.args.problem.now c.args.instance.now c.entity_rule.result c.in-Some.rule c.entity_rule.ensures c.in-Some.is)

pub returns-in-None-clause-decides : goal.returns-in-None-clause-decides
returns-in-None-clause-decides c = has_none c.args.problem.now c.args.instance.now c.entity_rule.result c.entity_rule.ensures c.in-None.is
