use Rattle.std.proofs.Common.{◌≡◌, ◌++◌, map, option_map, drop, Some}
use Rattle.std.specs.List.{AllByRecursion}
use Rattle.serde_json.specs.View.{view, items_view}
use Rattle.sc_values.specs.Proper.{IsUidText}
use Rattle.sc_world_json.specs.Worlds.{elements, elements_of, uid_of}
use Rattle.sc_world_json.proofs.uids.listed_uids.Given as goal

abbrev pub invariant-loop-item : goal.invariant-loop-item
invariant-loop-item l = record {
  so_far : l.uids.items ++ map (λ d. uid_of (Some d)) (elements (items_view (drop l.item-index l.item-items)))
      ≡ map (λ d. uid_of (Some d)) (elements_of (option_map (λ v. view v.now) l.fn.value));
  texts : AllByRecursion IsUidText l.uids.items;
}
