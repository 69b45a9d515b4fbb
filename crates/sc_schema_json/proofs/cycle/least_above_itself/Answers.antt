use Rattle.std.proofs.Common.{rules}
use Rattle.std.specs.Ordering.{nat_cmp}
use Rattle.sc_graphs.specs.Reaching as reaching
use Rattle.sc_graphs.specs.Graphs.{Follows}
use Rattle.sc_schema_json.proofs.CycleLaws.{least_at_place}
use Rattle.sc_schema_json.proofs.cycle.least_above_itself.Goals as goal

pub returns-in-Some-clause-found : goal.returns-in-Some-clause-found
returns-in-Some-clause-found g c =
    let least : reaching.IsLeastCycle nat_cmp (Follows c.in_ok-graph.graph) c.in-Some.at = search rules in
    least_at_place g.K.Key.total c.args.links.now c.in_ok-graph.graph c.in-Some.at c.index-links-at.result c.in_ok-copy-in-Some.field-0 c.in_ok-graph.ensures c.requires.ascending least c.index-links-at.is c.in_ok-copy-in-Some.ensures
