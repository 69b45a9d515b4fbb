use Rattle.std.proofs.Common.{◌≡◌, map, fold, drop}
use Rattle.sc_typing.specs.Names.{first_of, first_in, entity_fault}
use Rattle.sc_typing.proofs.names.entities_fault.Given as goal

abbrev pub invariant-loop-l : goal.invariant-loop-l
invariant-loop-l l = fold first_of l.found (map (entity_fault l.schema) (drop l.l-index l.ls)) ≡ first_in (map (entity_fault l.schema) l.ls)
