use Rattle.std.proofs.Common.{rules}
use Rattle.th_equal.proofs.RowLaws.{field_first, field_second}
use Rattle.th_equal.proofs.rows.field_row_literal.Goals as goal

pub returns-then-place-eq0 : goal.returns-then-place-eq0
returns-then-place-eq0 c = field_first c.args.problem.now _ _ _ _ _ c.requires.place c.if-place-eq0.true (search rules)

pub returns : goal.returns
returns c = field_second c.args.problem.now _ _ _ _ _ c.requires.place c.if-place-eq0.false c.field_literal.ensures
