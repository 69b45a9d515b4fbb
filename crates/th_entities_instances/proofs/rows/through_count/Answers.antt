use Rattle.std.proofs.Common.{rules}
use Rattle.sc_rule_instances.specs.Given.{term_at}
use Rattle.th_entities_instances.proofs.RowLaws.{count_said, through_said}
use Rattle.th_entities_instances.proofs.rows.through_count.Goals as goal

pub returns : goal.returns
returns c = count_said _ _ _ _ (through_said (term_at c.args.problem.now c.args.e) (term_at c.args.problem.now c.args.f) (term_at c.args.problem.now c.args.x) (term_at c.args.problem.now c.args.u)) (search rules)
