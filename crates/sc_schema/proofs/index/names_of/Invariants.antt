use Rattle.std.proofs.Common.{◌≡◌, ◌++◌, drop, map}
use Rattle.sc_schema.specs.declared.declarations.EntityType.{EntityType}
use Rattle.sc_schema.proofs.index.names_of.Given as goal

abbrev pub invariant-loop-declared : goal.invariant-loop-declared
invariant-loop-declared l = l.names ++ map (λ (t : EntityType). t.name) (drop l.declared-index l.types) ≡ map (λ (t : EntityType). t.name) l.types
