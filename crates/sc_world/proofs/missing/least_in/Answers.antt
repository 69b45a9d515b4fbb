use Rattle.std.proofs.Common.{option_copied, arith}
use Rattle.sc_world.specs.Tests.{least_missing}
use Rattle.sc_world.proofs.LeastLaws.{least_uid_next, least_uid_end}
use Rattle.sc_world.proofs.missing.least_in.Goals as goal

pub loop-uid-preserved : goal.loop-uid-preserved
loop-uid-preserved c =
    least_uid_next c.args.store.now (option_copied c.loop-uid.least) (option_copied c.lesser-least.result) (least_missing c.args.store.now (option_copied c.args.so_far) c.args.uids.now) c.args.uids.now c.loop-uid.uid-index
    c.uid-item.result c.uid-item.is (omega arith) c.lesser-least.ensures c.loop-uid.invariant

pub returns : goal.returns
returns c =
    least_uid_end c.args.store.now (option_copied c.loop-uid.least) (least_missing c.args.store.now (option_copied c.args.so_far) c.args.uids.now) c.args.uids.now c.loop-uid.uid-index (omega arith) c.loop-uid.invariant
