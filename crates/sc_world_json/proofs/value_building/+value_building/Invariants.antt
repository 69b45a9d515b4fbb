use Rattle.std.proofs.Common.{◌≡◌, ◌++◌, ℕ, List, drop}
use Rattle.std.specs.List.{AllByRecursion}
use Rattle.std.specs.Map.{keys_of}
use Rattle.std.specs.Str.{IsUtf8}
use Rattle.serde_json.specs.View.{items_view, members_view}
use Rattle.sc_values.specs.declared.value.Value.{Value}
use Rattle.sc_values.specs.Proper.{IsProper}
use Rattle.sc_world_json.specs.Worlds.{values_of, fields_of}
use Rattle.sc_world_json.proofs.value_building.+value_building.Given as goal

abbrev pub invariant-values_of-loop-item : goal.invariant-values_of-loop-item
invariant-values_of-loop-item l = record {
  so_far : l.values.items ++ values_of (items_view (drop l.item-index l.items.items)) ≡ values_of (items_view l.items.items);
  proper : AllByRecursion IsProper l.values.items;
}

abbrev pub invariant-fields_of-loop-name : goal.invariant-fields_of-loop-name
invariant-fields_of-loop-name l = record {
  goes_on : (goal.iterator-fields_of-loop-name).can_next l.name-iterator;
  ends : (goal.iterator-fields_of-loop-name).is_finite l.name-iterator;
  so_far : l.fields ++ fields_of (members_view l.name-iterator) ≡ fields_of (members_view l.members.entries);
  texts : AllByRecursion IsUtf8 (keys_of l.fields);
  proper : AllByRecursion (λ (f : List ℕ × Value). IsProper f.1) l.fields;
}
