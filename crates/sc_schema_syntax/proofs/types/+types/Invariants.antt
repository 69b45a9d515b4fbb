use Rattle.std.proofs.Common.{◌≡◌, ◌+◌, ◌*◌, ◌≤◌, ◌++◌}
use Rattle.serde_json.specs.Data.{depth, object}
use Rattle.serde_json.specs.View.{view, members_view}
use Rattle.sc_schema_syntax.specs.Written.{attributes_of, attributes_from}
use Rattle.sc_schema_syntax.proofs.types.+types.Given as goal

abbrev pub decreases-type_of : goal.decreases-type_of
decreases-type_of l = 2 * depth (view l.value.now) + 1

abbrev pub decreases-element_of : goal.decreases-element_of
decreases-element_of l = 2 * depth (view l.value.now)

abbrev pub decreases-attributes_in : goal.decreases-attributes_in
decreases-attributes_in l = 2 * depth (view l.value.now)

abbrev pub decreases-attributes_of : goal.decreases-attributes_of
decreases-attributes_of l = 2 * depth (view l.value.now) + 1

abbrev pub invariant-attributes_of-loop-name : goal.invariant-attributes_of-loop-name
invariant-attributes_of-loop-name l = record {
  goes_on : (goal.iterator-attributes_of-loop-name).can_next l.name-iterator;
  ends : (goal.iterator-attributes_of-loop-name).is_finite l.name-iterator;
  so_far : l.attributes ++ attributes_from (members_view l.name-iterator) ≡ attributes_of (view l.value);
  inside : depth (object (members_view l.name-iterator)) ≤ depth (view l.value);
}
