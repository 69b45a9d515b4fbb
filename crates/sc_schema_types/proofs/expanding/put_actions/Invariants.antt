use Rattle.std.proofs.Common.{◌≡◌, ◌++◌, map, take}
use Rattle.sc_schema_types.specs.Tables.{type_in}
use Rattle.sc_schema_types.specs.Types.{expanded_action}
use Rattle.sc_schema_types.proofs.expanding.put_actions.Given as goal

abbrev pub invariant-loop-action : goal.invariant-loop-action
invariant-loop-action l = l.all ≡ l.initial.all ++ map (expanded_action l.kinds (type_in l.table.entries)) (take l.action-index l.actions)
