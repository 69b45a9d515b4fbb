use Rattle.std.proofs.Common.{◌≡◌, ◌++◌, map, take}
use Rattle.sc_schema_syntax.specs.declared.written_action.WrittenAction.{WrittenAction}
use Rattle.sc_schema_names.specs.Names.{action_uid}
use Rattle.sc_schema_names.proofs.declaring.put_actions.Given as goal

abbrev pub invariant-loop-action : goal.invariant-loop-action
invariant-loop-action l = l.uids ≡ l.initial.uids ++ map (λ (t : WrittenAction). action_uid l.namespace.name t.id) (take l.action-index l.action-items)
