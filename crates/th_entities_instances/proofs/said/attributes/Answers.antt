use Rattle.sc_rule_laws.specs.Entities.{en1}
use Rattle.sc_footprint.specs.Problems.{term_of}
use Rattle.th_entities_instances.proofs.GivenLaws.{attributes_row, no_entities, attributes_unlike}
use Rattle.th_entities_instances.proofs.said.attributes.Goals as goal

pub returns-in_default : goal.returns-in_default
returns-in_default c = c.in_default.ensures (λ t u. en1 t u c.args.i (term_of c.args.problem.now c.args.i))

pub returns-in_default-entities_of : goal.returns-in_default-entities_of
returns-in_default-entities_of c =
    no_entities c.args.problem.now c.args.x c.args.y c.args.i c.in-Some.a c.in-Some.b c.in-Some.ensures.0 c.in-Some.ensures.1 c.in_default-entities_of.ensures

pub returns-in_default-alike_of : goal.returns-in_default-alike_of
returns-in_default-alike_of c =
    attributes_unlike c.args.problem.now c.args.x c.args.y c.args.i c.in-Some.a c.in-Some.b c.in-Some.ensures.0 c.in-Some.ensures.1 c.in-Some-entities_of.entities c.in-Some-entities_of.ensures c.in_default-alike_of.ensures

pub returns : goal.returns
returns c =
    attributes_row c.args.problem.now c.args.x c.args.y c.args.i c.in-Some.a c.in-Some.b c.in-Some.ensures.0 c.in-Some.ensures.1 c.in-Some-entities_of.entities c.in-Some-alike_of.alike c.in-Some-entities_of.ensures
    c.in-Some-alike_of.ensures
