use Rattle.sc_rule_laws.specs.Entities.{en3}
use Rattle.sc_footprint.specs.Problems.{term_of}
use Rattle.th_entities_instances.proofs.GivenLaws.{tags_row, no_tags, tags_unlike}
use Rattle.th_entities_instances.proofs.said.tags.Goals as goal

pub returns-in_default : goal.returns-in_default
returns-in_default c = c.in_default.ensures (λ t u. en3 t u c.args.i (term_of c.args.problem.now c.args.i))

pub returns-in_default-tags_of : goal.returns-in_default-tags_of
returns-in_default-tags_of c =
    no_tags c.args.problem.now c.args.x c.args.y c.args.i c.in-Some.a c.in-Some.b c.in-Some.ensures.0 c.in-Some.ensures.1 c.in_default-tags_of.ensures

pub returns-in_default-alike_of : goal.returns-in_default-alike_of
returns-in_default-alike_of c =
    tags_unlike c.args.problem.now c.args.x c.args.y c.args.i c.in-Some.a c.in-Some.b c.in-Some.ensures.0 c.in-Some.ensures.1 c.in-Some-tags_of.tags c.in-Some-tags_of.ensures c.in_default-alike_of.ensures

pub returns : goal.returns
returns c =
    tags_row c.args.problem.now c.args.x c.args.y c.args.i c.in-Some.a c.in-Some.b c.in-Some.ensures.0 c.in-Some.ensures.1 c.in-Some-tags_of.tags c.in-Some-alike_of.alike c.in-Some-tags_of.ensures
    c.in-Some-alike_of.ensures
