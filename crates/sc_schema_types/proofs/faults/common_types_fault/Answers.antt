use Rattle.sc_schema_types.specs.Faults.{common_type_fault}
use Rattle.sc_schema_types.specs.Tables.{outline_in, judged_by}
use Rattle.sc_schema_types.proofs.FaultsLaws.{first_more, first_here}
use Rattle.sc_schema_types.proofs.faults.common_types_fault.Goals as goal

pub returns-in-Some : goal.returns-in-Some
returns-in-Some c =
    first_here (common_type_fault (judged_by (outline_in c.args.table.now.entries))) c.args.types.now c.loop-declared.declared-index c.declared-item.result c.in_ok-fault.field-0 c.loop-declared-test.true c.declared-item.is
    c.in_ok-fault.ensures c.loop-declared.invariant c.in-Some.fault c.in-Some.is

pub loop-declared-preserved : goal.loop-declared-preserved
loop-declared-preserved c =
    first_more (common_type_fault (judged_by (outline_in c.args.table.now.entries))) c.args.types.now c.loop-declared.declared-index c.declared-item.result c.in_ok-fault.field-0 c.loop-declared-test.true c.declared-item.is
    c.in_ok-fault.ensures c.loop-declared.invariant c.in_default.is
