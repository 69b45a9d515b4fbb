use Rattle.std.proofs.Common.{◌≡◌, drop}
use Rattle.sc_schema_syntax.specs.declared.written_namespace.WrittenNamespace.{WrittenNamespace}
use Rattle.sc_schema_names.specs.Tables.{known}
use Rattle.sc_schema_names.specs.Unknown.{first_member, namespace_fault}
use Rattle.sc_schema_names.proofs.checking.schema_fault.Given as goal

abbrev pub invariant-loop-namespace : goal.invariant-loop-namespace
invariant-loop-namespace l =
    first_member (λ (n : WrittenNamespace). n.name) (namespace_fault (known l.declared)) (drop l.namespace-index l.written.namespaces)
    ≡ first_member (λ (n : WrittenNamespace). n.name) (namespace_fault (known l.declared)) l.written.namespaces
