use Rattle.std.proofs.Common.{rules}
use Rattle.th_equal.proofs.RowLaws.{choice_first, choice_second}
use Rattle.th_equal.proofs.rows.choice_literal.Goals as goal

pub returns-then-place-eq0 : goal.returns-then-place-eq0
returns-then-place-eq0 c = choice_first c.args.problem.now _ _ _ _ _ _ _ c.in-Some.ensures c.requires.place c.if-place-eq0.true (search rules)

pub returns : goal.returns
returns c = choice_second c.args.problem.now _ _ _ _ _ _ _ c.in-Some.ensures c.requires.place c.if-place-eq0.false (search rules)
