use Rattle.std.proofs.Common.{rules}
use Rattle.th_equal.proofs.RowLaws.{fields_first, fields_later}
use Rattle.th_equal.proofs.rows.fields_literal.Goals as goal

pub returns-then-place-eq0 : goal.returns-then-place-eq0
returns-then-place-eq0 c = fields_first c.args.problem.now _ _ _ _ c.requires.place c.if-place-eq0.true (search rules)

pub returns : goal.returns
returns c = fields_later c.args.problem.now _ _ _ _ _ c.requires.place c.if-place-eq0.false c.field_literal.ensures (search rules)
