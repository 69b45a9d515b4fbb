use Rattle.std.proofs.Common.{rules}
use Rattle.sc_rule_instances.specs.Given.{term_at}
use Rattle.th_entities_instances.proofs.RowLaws.{first, second, last_of_three, through_said}
use Rattle.th_entities_instances.proofs.rows.through_literal.Goals as goal

pub returns-then-place-eq0 : goal.returns-then-place-eq0
returns-then-place-eq0 c = first c.args.problem.now _ _ _ _ _ _ (through_said (term_at c.args.problem.now c.args.e) (term_at c.args.problem.now c.args.f) (term_at c.args.problem.now c.args.x) (term_at c.args.problem.now c.args.u)) c.requires.place c.if-place-eq0.true (search rules)

pub returns-then-place-eq1 : goal.returns-then-place-eq1
returns-then-place-eq1 c = second c.args.problem.now _ _ _ _ _ _ _ (through_said (term_at c.args.problem.now c.args.e) (term_at c.args.problem.now c.args.f) (term_at c.args.problem.now c.args.x) (term_at c.args.problem.now c.args.u)) c.requires.place c.if-place-eq1.true (search rules)

pub returns : goal.returns
returns c = last_of_three c.args.problem.now _ _ _ _ _ _ _ (through_said (term_at c.args.problem.now c.args.e) (term_at c.args.problem.now c.args.f) (term_at c.args.problem.now c.args.x) (term_at c.args.problem.now c.args.u)) c.requires.place c.if-place-eq0.false c.if-place-eq1.false (search rules)
