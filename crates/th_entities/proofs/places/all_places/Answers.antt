use Rattle.std.proofs.Common.{arith, rules}
use Rattle.th_entities.proofs.PlaceLaws.{in_order, so_far_none, so_far_more, so_far_all}
use Rattle.th_entities.proofs.places.all_places.Goals as goal

pub loop-n-init : goal.loop-n-init
loop-n-init c = so_far_none c.args.problem.now _ (search rules)

pub loop-n-preserved : goal.loop-n-preserved
loop-n-preserved c = so_far_more c.args.problem.now _ _ _ _ c.place_at.ensures c.in_ok-put.ensures c.loop-n.invariant

pub returns : goal.returns
returns c = in_order c.args.problem.now _ _ c.put_in_order.ensures (so_far_all c.args.problem.now _ _ (omega (arith, c.closed_count-n-end.ensures.value, c.loop-n-test.false)) c.loop-n.invariant)
