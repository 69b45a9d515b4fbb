use Rattle.sc_terms.specs.Tables.{tree}
use Rattle.sc_rule_laws.specs.Terms.{above}
use Rattle.th_entities_instances.proofs.AbsentLaws.{member_absent, member_found}
use Rattle.th_entities_instances.proofs.stored.above_literal.Goals as goal

pub returns-in-Some : goal.returns-in-Some
returns-in-Some c =
    member_found c.problem_laws.ensures.terms c.args.problem.now c.laws.ensures (tree c.args.problem.now.nodes c.args.x) (above c.args.sort.now (tree c.args.problem.now.nodes c.args.e)) c.in-Some.set _ c.in-Some.ensures
    c.member.ensures

pub returns-in-None : goal.returns-in-None
returns-in-None c =
    member_absent c.problem_laws.ensures.terms c.args.problem.now c.laws.ensures (tree c.args.problem.now.nodes c.args.x) (above c.args.sort.now (tree c.args.problem.now.nodes c.args.e)) c.in-None.ensures
