use Rattle.std.proofs.Common.{arith}
use Rattle.sc_falsified.proofs.SizeLaws.{room, counted_next}
use Rattle.sc_falsified.proofs.chains.sizes.Goals as goal

pub count_one-requires : goal.count_one-requires
count_one-requires c = room c.args.labels.now c.loop-item.sizes.items c.loop-item.item c.loop-item.invariant.sized c.loop-item-test.true c.loop-item.invariant.at

pub loop-item-preserved : goal.loop-item-preserved
loop-item-preserved c = record {
  sized = omega (arith, c.count_one.ensures.sized, c.loop-item.invariant.sized);
  at = λ k within. counted_next c.args.labels.now c.loop-item.sizes.items c.loop-item.item c.loop-item.invariant.sized c.loop-item-test.true c.loop-item.invariant.at c.count_one.new.sizes.items c.count_one.ensures.counted k
      (omega (arith, within, c.count_one.ensures.sized));
}
