use Rattle.std.proofs.Common.{◌≡◌, map, take}
use Rattle.sc_schema_names.specs.Resolution.{resolved_namespace}
use Rattle.sc_schema_names.specs.Tables.{known}
use Rattle.sc_schema_names.proofs.translating.resolved_by.Given as goal

abbrev pub invariant-loop-namespace : goal.invariant-loop-namespace
invariant-loop-namespace l = l.namespaces ≡ map (resolved_namespace (known l.declared)) (take l.namespace-index l.written.namespaces)
