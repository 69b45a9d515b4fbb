use Rattle.std.proofs.Common.{◌≡◌, map, option_map, drop}
use Rattle.std.specs.List.{AllByRecursion}
use Rattle.serde_json.specs.View.{view, items_view}
use Rattle.sc_world.specs.WellFormed.{IsProperEntry}
use Rattle.sc_world_json.specs.Worlds.{elements, entity_of, store_with, store_of}
use Rattle.sc_world_json.proofs.building.store_of.Given as goal

abbrev pub invariant-loop-item : goal.invariant-loop-item
invariant-loop-item l = record {
  so_far : store_with l.store (map entity_of (elements (items_view (drop l.item-index l.item-items)))) ≡ store_of (option_map (λ v. view v.now) l.fn.value);
  proper : AllByRecursion IsProperEntry l.store;
}
