use Rattle.std.proofs.Common.{◌∙◌, sym}
use Rattle.sc_rule_instances.specs.Given.{term_at}
use Rattle.th_entities_instances.proofs.DeclaredLaws.{none_counted, one_counted, each_counted}
use Rattle.th_entities_instances.proofs.rows.declared_count.Goals as goal

pub returns-in_default : goal.returns-in_default
returns-in_default c = none_counted c.args.problem.now.schema (term_at c.args.problem.now c.args.s) (term_at c.args.problem.now c.args.x) c.in_default.ensures

pub returns-then-is_one_of : goal.returns-then-is_one_of
returns-then-is_one_of c = one_counted c.args.problem.now.schema (term_at c.args.problem.now c.args.s) (term_at c.args.problem.now c.args.x) c.in-Some.uids.now c.above_name-name.result.now c.in-Some.ensures c.above_name-name.ensures (sym c.is_one_of.ensures ∙ c.if-is_one_of.true)

pub returns : goal.returns
returns c = each_counted c.args.problem.now.schema (term_at c.args.problem.now c.args.s) (term_at c.args.problem.now c.args.x) c.in-Some.uids.now c.above_name-name.result.now _ c.in-Some.ensures c.above_name-name.ensures (sym c.is_one_of.ensures ∙ c.if-is_one_of.false) c.count_of_type.ensures.value
