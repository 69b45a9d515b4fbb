use Rattle.std.proofs.Common.{◌≡◌, drop}
use Rattle.sc_schema_types.specs.Faults.{first, action_fault}
use Rattle.sc_schema_types.specs.Tables.{outline_in, judged_by}
use Rattle.sc_schema_types.proofs.faults.actions_fault.Given as goal

abbrev pub invariant-loop-action : goal.invariant-loop-action
invariant-loop-action l =
    first (action_fault (judged_by (outline_in l.table.entries))) (drop l.action-index l.actions) ≡ first (action_fault (judged_by (outline_in l.table.entries))) l.actions
