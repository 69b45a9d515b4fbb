use Rattle.std.proofs.Common.{◌≡◌, ℕ, List, take}
use Rattle.std.specs.Option.{option_or}
use Rattle.sc_schema_types.specs.References.{body_among}
use Rattle.sc_schema_types.specs.Tables.{body_in}
use Rattle.sc_schema_types.proofs.bodies.put_all.Given as goal

abbrev pub invariant-loop-declared : goal.invariant-loop-declared
invariant-loop-declared l =
    (name : List ℕ) → body_in l.bodies.entries name ≡ option_or (body_in l.initial.bodies.entries name) (body_among (take l.declared-index l.types) name)
