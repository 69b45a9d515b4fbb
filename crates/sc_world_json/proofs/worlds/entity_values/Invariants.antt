use Rattle.std.proofs.Common.{◌≡◌, map, ◌++◌}
use Rattle.std.specs.List.{AllByRecursion}
use Rattle.serde_json.specs.View.{view}
use Rattle.sc_world.specs.WellFormed.{IsProperEntry}
use Rattle.sc_world_json.specs.Text.{entity_data}
use Rattle.sc_world_json.proofs.worlds.entity_values.Given as goal

abbrev pub invariant-loop-uid : goal.invariant-loop-uid
invariant-loop-uid l =
    (goal.iterator-loop-uid).can_next l.uid-iterator ×
    (goal.iterator-loop-uid).is_finite l.uid-iterator ×
    AllByRecursion IsProperEntry l.uid-iterator ×
    (map entity_data l.store ≡ map view l.values.items ++ map entity_data l.uid-iterator)
