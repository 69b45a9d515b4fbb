use Rattle.std.specs.Map.{keys_of}
use Rattle.sc_graphs.specs.Keys.{HasPlaces}
use Rattle.sc_schema_json.specs.Graphs.{parents_at}
use Rattle.sc_schema_json.proofs.graph.graph_of.Given as goal

abbrev pub invariant-loop-link : goal.invariant-loop-link
invariant-loop-link g l = HasPlaces (keys_of l.fn.links) (parents_at l.fn.links) l.graph l.link-index
