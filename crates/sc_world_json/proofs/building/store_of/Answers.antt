use Rattle.std.proofs.Common.{rules}
use Rattle.sc_world_json.proofs.StoredLaws.{store_next, proper_next}
use Rattle.sc_world_json.proofs.building.store_of.Goals as goal

pub loop-item-preserved : goal.loop-item-preserved
loop-item-preserved c =
    let uid = c.in_ok-uid.uid in
    let entity = c.in_ok-uid.entity in
    record {
      so_far = store_next _ c.loop-item.store c.insert.new.self c.deref-item-items.result.now c.loop-item.item-index c.item-item.result uid entity
          c.item-item.is (search rules) c.in_ok-uid.ensures.value c.in_ok-insert.ensures.ok c.loop-item.invariant.so_far;
      proper = proper_next c.loop-item.store c.insert.new.self uid entity c.in_ok-insert.ensures.ok c.loop-item.invariant.proper c.in_ok-uid.ensures.proper;
    }
