use Rattle.std.proofs.Common.{rules}
use Rattle.sc_rule_instances.specs.Given.{term_at}
use Rattle.th_equal.proofs.RowLaws.{options_first, options_second, options_third, options_fourth}
use Rattle.th_equal.proofs.rows.options_literal.Goals as goal

pub returns-then-place-eq0 : goal.returns-then-place-eq0
returns-then-place-eq0 c = options_first c.args.problem.now (term_at c.args.problem.now c.args.o) (term_at c.args.problem.now c.args.q) c.args.side c.args.place _ c.requires.place c.if-place-eq0.true (search rules)

pub returns-then-place-eq1 : goal.returns-then-place-eq1
returns-then-place-eq1 c = options_second c.args.problem.now (term_at c.args.problem.now c.args.o) (term_at c.args.problem.now c.args.q) c.args.side c.args.place _ c.requires.place c.if-place-eq1.true (search rules)

pub returns-then-place-eq2 : goal.returns-then-place-eq2
returns-then-place-eq2 c = options_third c.args.problem.now (term_at c.args.problem.now c.args.o) (term_at c.args.problem.now c.args.q) c.args.side c.args.place _ c.requires.place c.if-place-eq2.true (search rules)

pub returns : goal.returns
returns c = options_fourth c.args.problem.now (term_at c.args.problem.now c.args.o) (term_at c.args.problem.now c.args.q) c.args.side c.args.place _ c.requires.place c.if-place-eq0.false c.if-place-eq1.false c.if-place-eq2.false (search rules)
