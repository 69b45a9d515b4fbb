use Rattle.std.proofs.Common.{◌≡◌, ◌++◌, drop}
use Rattle.std.specs.List.{flat_map}
use Rattle.sc_schema.specs.Declarations.{environments_for}
use Rattle.sc_schema.proofs.index.environments_of.Given as goal

abbrev pub invariant-loop-action : goal.invariant-loop-action
invariant-loop-action l = l.list ++ flat_map environments_for (drop l.action-index l.actions) ≡ flat_map environments_for l.actions
