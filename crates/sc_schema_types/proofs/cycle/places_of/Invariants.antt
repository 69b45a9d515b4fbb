use Rattle.std.proofs.Common.{take}
use Rattle.sc_graphs.specs.Keys.{ArePlaces}
use Rattle.sc_schema_types.proofs.cycle.places_of.Given as goal

abbrev pub invariant-loop-name : goal.invariant-loop-name
invariant-loop-name l = ArePlaces l.fn.all (take l.name-index l.fn.names) l.places
