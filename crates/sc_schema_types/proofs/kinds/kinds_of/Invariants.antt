use Rattle.std.proofs.Common.{◌≡◌, map, take}
use Rattle.std.specs.List.{flat_map}
use Rattle.sc_schema.specs.declared.resolved_namespace.ResolvedNamespace.{ResolvedNamespace}
use Rattle.sc_schema_types.specs.Expansions.{kind_of_type}
use Rattle.sc_schema_types.proofs.kinds.kinds_of.Given as goal

abbrev pub invariant-loop-namespace : goal.invariant-loop-namespace
invariant-loop-namespace l = l.kinds ≡ flat_map (λ (n : ResolvedNamespace). map kind_of_type n.entity_types) (take l.namespace-index l.namespace-items)
