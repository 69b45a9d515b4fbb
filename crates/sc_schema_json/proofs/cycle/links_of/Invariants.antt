use Rattle.std.proofs.Common.{◌≡◌, take, flat_map}
use Rattle.sc_schema.specs.declared.resolved_namespace.ResolvedNamespace.{ResolvedNamespace}
use Rattle.sc_schema_json.specs.Schemas.{resolved_links}
use Rattle.sc_schema_json.proofs.cycle.links_of.Given as goal

abbrev pub invariant-loop-namespace : goal.invariant-loop-namespace
invariant-loop-namespace l = l.links ≡ resolved_links (flat_map (λ (n : ResolvedNamespace). n.actions) (take l.namespace-index l.namespace-items))
