use Rattle.std.proofs.Common.{inr, length, refl}
use Rattle.sc_checker.proofs.PieceLaws.{end_found, end_passed}
use Rattle.sc_checker.proofs.line_checker.lines_end.Goals as goal

pub loop-last-preserved : goal.loop-last-preserved
loop-last-preserved c =
    let next = end_passed c.args.bytes.now c.loop-last.left.now c.in-Some.before.now c.in-Some.last.now c.loop-last.invariant.front c.loop-last.invariant.behind c.in-Some.ensures.cases.0 c.if-last-eq10.false in
    record { front = next.0; behind = next.1 }

pub returns-then-last-eq10-clause-ended : goal.returns-then-last-eq10-clause-ended
returns-then-last-eq10-clause-ended c =
    inr (end_found c.args.bytes.now c.loop-last.left.now c.in-Some.before.now c.in-Some.last.now (length c.loop-last.left.now) c.loop-last.invariant.front c.in-Some.ensures.cases.0 c.if-last-eq10.true refl)
