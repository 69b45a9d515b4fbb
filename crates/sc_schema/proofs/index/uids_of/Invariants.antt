use Rattle.std.proofs.Common.{◌≡◌, ◌++◌, drop, map}
use Rattle.sc_schema.specs.declared.declarations.Action.{Action}
use Rattle.sc_schema.proofs.index.uids_of.Given as goal

abbrev pub invariant-loop-action : goal.invariant-loop-action
invariant-loop-action l = l.uids ++ map (λ (a : Action). a.uid) (drop l.action-index l.actions) ≡ map (λ (a : Action). a.uid) l.actions
