use Rattle.std.proofs.Common.{◌≡◌, ◌++◌, map, take}
use Rattle.sc_schema_types.specs.Tables.{type_in}
use Rattle.sc_schema_types.specs.Types.{expanded_entity_type}
use Rattle.sc_schema_types.proofs.expanding.put_entity_types.Given as goal

abbrev pub invariant-loop-declared : goal.invariant-loop-declared
invariant-loop-declared l = l.all ≡ l.initial.all ++ map (expanded_entity_type l.kinds (type_in l.table.entries)) (take l.declared-index l.types)
