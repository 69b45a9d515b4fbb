use Rattle.std.proofs.Common.{arith}
use Rattle.sc_reduction.specs.Marked.{asked_by}
use Rattle.sc_reduction.proofs.PassLaws.{pass_more}
use Rattle.sc_reduction.proofs.passes.next_pass.Goals as goal

pub try_policy-requires-clause-world : goal.try_policy-requires-clause-world
try_policy-requires-clause-world c = c.taken.ensures.world (asked_by c.args.task.now) c.loop-place.invariant.worlds_before

pub loop-place-preserved : goal.loop-place-preserved
loop-place-preserved c =
    let r = asked_by c.args.task.now in
    pass_more r c.args.last.kept.items c.loop-place.place c.loop-place.kept.items c.try_policy.new.kept.items c.loop-place.before.items c.taken.new.fates.items c.loop-place.fates.items c.push.new.self.items c.in_ok-fate.fate
    c.loop-place.dropped c.index-stayed.result.now c.stays.result (omega arith) c.index-stayed.ensures c.stays.ensures c.in_ok-push.ensures.items c.loop-place.invariant (c.taken.ensures.worlds r c.loop-place.invariant.worlds_before)
    c.in_ok-fate.ensures.tried
