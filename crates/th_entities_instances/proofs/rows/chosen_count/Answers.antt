use Rattle.std.proofs.Common.{rules}
use Rattle.sc_rule_instances.specs.Given.{term_at}
use Rattle.th_entities_instances.proofs.RowLaws.{chosen_count}
use Rattle.th_entities_instances.proofs.rows.chosen_count.Goals as goal

pub returns : goal.returns
returns c = chosen_count c.args.problem.now.schema (term_at c.args.problem.now c.args.x) c.args.asked c.choices_of-uids.result.now _ c.choices_of-uids.ensures (search rules)
