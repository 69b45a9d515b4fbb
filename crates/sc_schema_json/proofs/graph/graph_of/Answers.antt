use Rattle.std.proofs.Common.{rules, ◌<◌, length, sym, ◌∙◌}
use Rattle.std.specs.Map.{keys_of}
use Rattle.sc_graphs.proofs.GraphLaws.{graph_next}
use Rattle.sc_schema_json.specs.Graphs.{parents_at}
use Rattle.sc_schema_json.proofs.GraphLaws.{parents_here}
use Rattle.sc_schema_json.proofs.graph.graph_of.Goals as goal

pub loop-link-preserved : goal.loop-link-preserved
loop-link-preserved g c =
    let within : c.loop-link.link-index < length c.args.links.now = search rules in
    graph_next (keys_of c.args.links.now) (parents_at c.args.links.now) c.loop-link.graph c.push.new.self c.loop-link.link-index c.as_slice.result.now c.in_ok-places_of.field-0 c.loop-link.invariant
    c.in_ok-push.ensures.ok (parents_here c.args.links.now c.loop-link.link-index c.link-item.result within c.link-item.is ∙ sym c.as_slice.ensures) c.in_ok-places_of.ensures
