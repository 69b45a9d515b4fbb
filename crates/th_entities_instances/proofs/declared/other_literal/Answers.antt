use Rattle.sc_terms.specs.Tables.{tree}
use Rattle.th_entities_instances.proofs.EntityLaws.{entity_found, entity_absent}
use Rattle.th_entities_instances.proofs.declared.other_literal.Goals as goal

pub returns-in-Some : goal.returns-in-Some
returns-in-Some c = entity_found c.problem_laws.ensures.terms c.args.problem.now c.laws.ensures (tree c.args.problem.now.nodes c.args.x) c.args.uid.now c.in-Some.found _ c.in-Some.ensures c.equal.ensures

pub returns-in-None : goal.returns-in-None
returns-in-None c = entity_absent c.problem_laws.ensures.terms c.args.problem.now c.laws.ensures (tree c.args.problem.now.nodes c.args.x) c.args.uid.now c.requires.other c.in-None.ensures
