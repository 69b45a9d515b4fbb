use Rattle.std.proofs.Common.{◌≡◌, map, take}
use Rattle.std.specs.List.{flat_map}
use Rattle.sc_schema.specs.declared.resolved_namespace.ResolvedNamespace.{ResolvedNamespace}
use Rattle.sc_schema_types.specs.Tables.{type_in}
use Rattle.sc_schema_types.specs.Types.{expanded_entity_type, expanded_action}
use Rattle.sc_schema_types.proofs.expanding.expanded_by.Given as goal

abbrev pub invariant-loop-namespace : goal.invariant-loop-namespace
invariant-loop-namespace l = record {
  types : l.entity_types ≡ flat_map (λ (n : ResolvedNamespace). map (expanded_entity_type l.kinds (type_in l.table.entries)) n.entity_types) (take l.namespace-index l.namespace-items);
  actions : l.actions ≡ flat_map (λ (n : ResolvedNamespace). map (expanded_action l.kinds (type_in l.table.entries)) n.actions) (take l.namespace-index l.namespace-items);
}
