use Rattle.std.proofs.Common.{◌≡◌, ℕ, List, take}
use Rattle.std.specs.List.{flat_map}
use Rattle.sc_schema.specs.declared.resolved_namespace.ResolvedNamespace.{ResolvedNamespace}
use Rattle.sc_schema_types.specs.References.{body_among}
use Rattle.sc_schema_types.specs.Tables.{body_in}
use Rattle.sc_schema_types.proofs.bodies.bodies_of.Given as goal

abbrev pub invariant-loop-namespace : goal.invariant-loop-namespace
invariant-loop-namespace l =
    (name : List ℕ) → body_in l.bodies.entries name ≡ body_among (flat_map (λ (n : ResolvedNamespace). n.common_types) (take l.namespace-index l.namespace-items)) name
