use Rattle.std.proofs.Common.{◌≡◌, drop}
use Rattle.sc_schema_types.specs.Faults.{first, namespace_fault}
use Rattle.sc_schema_types.specs.Tables.{outline_in, judged_by}
use Rattle.sc_schema_types.proofs.faults.first_fault.Given as goal

abbrev pub invariant-loop-namespace : goal.invariant-loop-namespace
invariant-loop-namespace l =
    first (namespace_fault (judged_by (outline_in l.table.entries))) (drop l.namespace-index l.namespace-items) ≡ first (namespace_fault (judged_by (outline_in l.table.entries))) l.namespace-items
