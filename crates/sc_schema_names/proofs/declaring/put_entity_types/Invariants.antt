use Rattle.std.proofs.Common.{◌≡◌, ◌++◌, map, take}
use Rattle.sc_schema_syntax.specs.declared.written_entity_type.WrittenEntityType.{WrittenEntityType}
use Rattle.sc_schema_names.specs.Names.{full}
use Rattle.sc_schema_names.proofs.declaring.put_entity_types.Given as goal

abbrev pub invariant-loop-entity_type : goal.invariant-loop-entity_type
invariant-loop-entity_type l = l.names ≡ l.initial.names ++ map (λ (t : WrittenEntityType). full l.namespace.name t.name) (take l.entity_type-index l.entity_type-items)
