use Rattle.std.proofs.Common.{take}
use Rattle.std.specs.Map.{keys_of}
use Rattle.sc_graphs.specs.Keys.{ArePlaces}
use Rattle.sc_schema_json.proofs.graph.places_of.Given as goal

abbrev pub invariant-loop-key : goal.invariant-loop-key
invariant-loop-key g l = ArePlaces (keys_of l.fn.all) (take l.key-index l.fn.keys) l.places
