use Rattle.std.proofs.Common.{refl, arith}
use Rattle.sc_world.proofs.FillLaws.{filled-none, filled-step, filled-end}
use Rattle.sc_world.proofs.filling.filled.Goals as goal

pub loop-done-init : goal.loop-done-init
loop-done-init c = filled-none c.args.s.now c.args.given c.args.request.now c.args.lits.now c.in_ok-uids.uids c.args.given c.in_ok-uids.ensures.uids refl c.in_ok-uids.ensures.ascending

pub loop-done-preserved : goal.loop-done-preserved
loop-done-preserved c =
    filled-step c.args.s.now c.args.given c.args.request.now c.args.lits.now c.loop-done.uids c.fill_at.new.uids c.loop-done.store c.fill_at.new.store c.loop-done.done
    (omega (arith, c.loop-done-test.true, c.len.ensures)) c.in_ok-fill_at.ensures c.loop-done.invariant

pub returns-clause-exact : goal.returns-clause-exact
returns-clause-exact c =
    filled-end c.args.s.now c.args.given c.args.request.now c.args.lits.now c.loop-done.uids c.loop-done.store c.loop-done.done (omega (arith, c.loop-done-test.false, c.len.ensures)) c.loop-done.invariant
