use Rattle.std.proofs.Common.{rules}
use Rattle.th_equal.proofs.RowLaws.{first, second, last_of_three}
use Rattle.th_equal.proofs.rows.presence_literal.Goals as goal

pub returns-then-place-eq0 : goal.returns-then-place-eq0
returns-then-place-eq0 c = first c.args.problem.now _ _ _ _ _ c.requires.place c.if-place-eq0.true (search rules)

pub returns-then-place-eq1 : goal.returns-then-place-eq1
returns-then-place-eq1 c = second c.args.problem.now _ _ _ _ _ _ c.requires.place c.if-place-eq1.true (search rules)

pub returns : goal.returns
returns c = last_of_three c.args.problem.now _ _ _ _ _ _ c.requires.place c.if-place-eq0.false c.if-place-eq1.false (search rules)
