use Rattle.sc_schema_names.specs.Tables.{known}
use Rattle.sc_schema_names.proofs.RecordsLaws.{record_told}
use Rattle.sc_schema_names.proofs.unknown_types.+unknown.Goals as goal

pub type_fault-returns-in-Record : goal.type_fault-returns-in-Record
type_fault-returns-in-Record t c =
    record_told c.record_fault.result (known c.args.declared.now) c.args.namespace.now c.args.written.now c.in-Record.attributes c.in-Record.is c.record_fault.ensures
