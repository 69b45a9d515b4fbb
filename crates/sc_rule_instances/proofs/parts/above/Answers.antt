use Rattle.sc_terms.specs.Tables.{tree}
use Rattle.sc_rule_instances.proofs.PartLaws.{above_shelved}
use Rattle.sc_rule_instances.proofs.parts.above.Goals as goal

pub returns : goal.returns
returns c = above_shelved c.args.problem.now c.args.sort.now (tree c.args.problem.now.nodes c.args.entity) c.shelf.result.now c.above_among.result c.shelf.ensures.value c.above_among.ensures
