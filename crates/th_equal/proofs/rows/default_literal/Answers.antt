use Rattle.std.proofs.Common.{rules}
use Rattle.th_equal.proofs.RowLaws.{first, last_of_two}
use Rattle.th_equal.proofs.rows.default_literal.Goals as goal

pub returns-then-place-eq0 : goal.returns-then-place-eq0
returns-then-place-eq0 c = first c.args.problem.now _ _ _ _ _ c.requires.place c.if-place-eq0.true (search rules)

pub returns : goal.returns
returns c = last_of_two c.args.problem.now _ _ _ _ _ c.requires.place c.if-place-eq0.false (search rules)
