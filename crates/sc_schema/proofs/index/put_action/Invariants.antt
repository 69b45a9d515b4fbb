use Rattle.std.proofs.Common.{◌≡◌, ◌++◌, drop, map}
use Rattle.std.specs.List.{flat_map}
use Rattle.sc_schema.specs.Declarations.{environment, environments_for}
use Rattle.sc_schema.proofs.index.put_action.Given as goal

abbrev pub invariant-loop-principal : goal.invariant-loop-principal
invariant-loop-principal l = l.list ++ flat_map (λ p. map (environment l.action p) l.action.resources) (drop l.principal-index l.action.principals) ≡ l.initial.list ++ environments_for l.action
