use Rattle.sc_graphs.specs.Keys.{HasPlaces}
use Rattle.sc_schema_types.specs.Places.{named_at}
use Rattle.sc_schema_types.specs.Tables.{body_in}
use Rattle.sc_schema_types.proofs.cycle.graph_of.Given as goal

abbrev pub invariant-loop-name : goal.invariant-loop-name
invariant-loop-name l = HasPlaces l.fn.names (named_at (body_in l.fn.bodies.entries) l.fn.names) l.graph l.name-index
