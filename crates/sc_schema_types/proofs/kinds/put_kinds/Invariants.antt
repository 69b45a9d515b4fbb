use Rattle.std.proofs.Common.{◌≡◌, ◌++◌, map, take}
use Rattle.sc_schema_types.specs.Expansions.{kind_of_type}
use Rattle.sc_schema_types.proofs.kinds.put_kinds.Given as goal

abbrev pub invariant-loop-declared : goal.invariant-loop-declared
invariant-loop-declared l = l.kinds ≡ l.initial.kinds ++ map kind_of_type (take l.declared-index l.types)
