use Rattle.std.proofs.Common.{◌≡◌, ◌++◌, drop, map}
use Rattle.sc_schema.specs.Declarations.{environment}
use Rattle.sc_schema.proofs.index.put_principal.Given as goal

abbrev pub invariant-loop-resource : goal.invariant-loop-resource
invariant-loop-resource l = l.list ++ map (environment l.action l.principal) (drop l.resource-index l.action.resources) ≡ l.initial.list ++ map (environment l.action l.principal) l.action.resources
