use Rattle.std.specs.Vec.Iter.{into_iter_items}
use Rattle.sc_schema_json.specs.Schemas.{type_links, IsEntityTypeOf}
use Rattle.sc_schema_json.proofs.BuildingLaws.{AreBuilt}
use Rattle.sc_schema_json.proofs.types.put_types.Given as goal

abbrev pub invariant-loop-entity_type : goal.invariant-loop-entity_type
invariant-loop-entity_type l = record {
  goes_on : (goal.iterator-loop-entity_type).can_next l.entity_type-iterator;
  ends : (goal.iterator-loop-entity_type).is_finite l.entity_type-iterator;
  built : AreBuilt (IsEntityTypeOf (type_links l.fn.declared)) l.fn.declared (into_iter_items l.entity_type-iterator) l.types;
}
