use Rattle.std.proofs.Common.{rules}
use Rattle.sc_rule_instances.specs.Given.{term_at}
use Rattle.th_entities_instances.proofs.RowLaws.{count_said, sets_said}
use Rattle.th_entities_instances.proofs.rows.sets_count.Goals as goal

pub returns : goal.returns
returns c = count_said _ _ _ _ (sets_said (term_at c.args.problem.now c.args.x) (term_at c.args.problem.now c.args.s) (term_at c.args.problem.now c.args.z)) (search rules)
