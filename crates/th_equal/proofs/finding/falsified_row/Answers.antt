use Rattle.std.proofs.Common.{arith}
use Rattle.th_equal.proofs.FreeLaws.{first_none, first_more, first_all}
use Rattle.th_equal.proofs.finding.falsified_row.Goals as goal

pub loop-n-init : goal.loop-n-init
loop-n-init c = first_none c.args.problem.now c.args.m.now

pub loop-n-preserved : goal.loop-n-preserved
loop-n-preserved c = first_more c.args.problem.now c.args.m.now _ c.in_default.ensures.none c.loop-n.invariant

pub returns-clause-none : goal.returns-clause-none
returns-clause-none c = first_all c.args.problem.now c.args.m.now _ (omega (arith, c.closed_count-n-end.ensures.value, c.loop-n-test.false)) c.loop-n.invariant
