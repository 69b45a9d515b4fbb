use Rattle.std.proofs.Common.{◌≡◌, ℕ, List, get_or, rules}
use Rattle.std.specs.Ordering.{nat_cmp}
use Rattle.std.proofs.lemmas.List.{get_or_default}
use Rattle.std.proofs.lemmas.Result.{IfOk-weaker}
use Rattle.sc_graphs.specs.Reaching as reaching
use Rattle.sc_graphs.specs.Graphs.{Follows}
use Rattle.sc_schema_types.specs.References.{references}
use Rattle.sc_schema_types.specs.Orders.{IsLeastCycle}
use Rattle.sc_schema_types.specs.Tables.{body_in}
use Rattle.sc_schema_types.proofs.CyclesLaws.{cycle_at, cycle_within}
use Rattle.sc_schema_types.proofs.cycle.least_cycle.Goals as goal

pub returns-in-Some : goal.returns-in-Some
returns-in-Some c =
    let bodies = body_in c.args.bodies.now.entries in
    let names = c.args.names.now in
    let graph = c.in_ok-graph.graph in
    let at = c.in-Some.at in
    let least : reaching.IsLeastCycle nat_cmp (Follows graph) at = search rules in
    let within = cycle_within bodies names graph at c.in_ok-graph.ensures least in
    let name = get_or names at c.args.met in
    IfOk-weaker c.name_at.result (λ (n : List ℕ). n ≡ name) (IsLeastCycle (references bodies))
    (λ n is. cycle_at bodies names graph at name n c.requires.all c.in_ok-graph.ensures c.requires.ascending least (get_or_default names at c.args.met name within) is) c.name_at.ensures
