use Rattle.sc_terms.specs.Tables.{tree}
use Rattle.sc_rule_instances.proofs.LookupLaws.{found_literal}
use Rattle.sc_rule_instances.proofs.literals.of_two.Goals as goal

pub returns : goal.returns
returns c =
    found_literal c.args.problem.now c.args.op (tree c.args.problem.now.nodes c.args.a) (tree c.args.problem.now.nodes c.args.b) c.find.result c.literal_if.result c.laws.ensures c.find.ensures c.literal_if.ensures.some
    c.literal_if.ensures.none
