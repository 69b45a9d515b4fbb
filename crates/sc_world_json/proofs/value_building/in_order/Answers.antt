use Rattle.sc_world_json.proofs.InOrderLaws.{values_made}
use Rattle.sc_world_json.proofs.value_building.in_order.Goals as goal

pub returns : goal.returns
returns c = values_made _ _ _ _ c.from_vec.ensures c.in_ok-sort.ensures.permutation c.in_ok-sort.ensures.sorted c.dedup.ensures.filtered
