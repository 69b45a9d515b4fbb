use Rattle.std.proofs.Common.{rules}
use Rattle.sc_rule_instances.specs.Given.{term_at}
use Rattle.th_entities_instances.proofs.RowLaws.{first, second, last_of_three, sets_said}
use Rattle.th_entities_instances.proofs.rows.sets_literal.Goals as goal

pub returns-then-place-eq0 : goal.returns-then-place-eq0
returns-then-place-eq0 c = first c.args.problem.now _ _ _ _ _ _ (sets_said (term_at c.args.problem.now c.args.x) (term_at c.args.problem.now c.args.s) (term_at c.args.problem.now c.args.z)) c.requires.place c.if-place-eq0.true (search rules)

pub returns-then-place-eq1 : goal.returns-then-place-eq1
returns-then-place-eq1 c = second c.args.problem.now _ _ _ _ _ _ _ (sets_said (term_at c.args.problem.now c.args.x) (term_at c.args.problem.now c.args.s) (term_at c.args.problem.now c.args.z)) c.requires.place c.if-place-eq1.true (search rules)

pub returns : goal.returns
returns c = last_of_three c.args.problem.now _ _ _ _ _ _ _ (sets_said (term_at c.args.problem.now c.args.x) (term_at c.args.problem.now c.args.s) (term_at c.args.problem.now c.args.z)) c.requires.place c.if-place-eq0.false c.if-place-eq1.false (search rules)
