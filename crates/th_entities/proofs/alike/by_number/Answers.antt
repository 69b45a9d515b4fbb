use Rattle.std.proofs.Common.{arith}
use Rattle.th_entities.proofs.AlikeLaws.{below_all, below_more, below_none}
use Rattle.th_entities.proofs.alike.by_number.Goals as goal

pub loop-i-init : goal.loop-i-init
loop-i-init c = below_none c.args.problem.now c.args.m.now c.args.tags c.args.a.number c.args.b.number

pub loop-i-preserved : goal.loop-i-preserved
loop-i-preserved c =
    below_more c.args.problem.now c.args.m.now c.args.tags c.args.a.number c.args.b.number c.loop-i.i c.in_default.ensures.none c.loop-i.invariant

pub returns-clause-none : goal.returns-clause-none
returns-clause-none c =
    below_all c.args.problem.now c.args.m.now c.args.tags c.args.a c.args.b.number c.args.count _ c.requires.place c.requires.count (omega (arith, c.loop-i-test.false)) c.loop-i.invariant
