use Rattle.std.proofs.Common.{rules}
use Rattle.sc_rule_instances.specs.Given.{term_at}
use Rattle.th_entities_instances.proofs.RowLaws.{count_said, lacking_said}
use Rattle.th_entities_instances.proofs.rows.lacking_count.Goals as goal

pub returns : goal.returns
returns c = count_said _ _ _ _ (lacking_said (term_at c.args.problem.now c.args.a)) (search rules)
