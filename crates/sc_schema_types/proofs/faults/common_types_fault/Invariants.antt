use Rattle.std.proofs.Common.{◌≡◌, drop}
use Rattle.sc_schema_types.specs.Faults.{first, common_type_fault}
use Rattle.sc_schema_types.specs.Tables.{outline_in, judged_by}
use Rattle.sc_schema_types.proofs.faults.common_types_fault.Given as goal

abbrev pub invariant-loop-declared : goal.invariant-loop-declared
invariant-loop-declared l =
    first (common_type_fault (judged_by (outline_in l.table.entries))) (drop l.declared-index l.types) ≡ first (common_type_fault (judged_by (outline_in l.table.entries))) l.types
