use Rattle.std.proofs.Common.{◌≤◌, length, rules}
use Rattle.sc_graphs.proofs.FoundLaws.{left_next, left_all, some_told, none_told}
use Rattle.sc_graphs.proofs.cycles.least_cycle.Goals as goal

pub loop-start-preserved : goal.loop-start-preserved
loop-start-preserved c = record {
  stands = c.in_ok-follow.ensures.stands;
  nowhere = c.in_ok-follow.ensures.nowhere;
  left = left_next c.loop-start.search.marks.items c.follow.new.self.marks.items c.loop-start.start c.loop-start.invariant.left c.in_ok-follow.ensures.goes c.in_ok-follow.ensures.left;
}

pub returns-clause-found : goal.returns-clause-found
returns-clause-found c =
    let enough : length c.args.graph.now ≤ c.loop-start.start = search rules in
    some_told c.loop-start.invariant.stands (left_all c.loop-start.search.marks.items c.loop-start.start (length c.args.graph.now) c.loop-start.invariant.left enough) c.first_cyclic.result c.as_slice.result.now c.as_slice.ensures.value c.first_cyclic.ensures.found

pub returns-clause-none : goal.returns-clause-none
returns-clause-none c =
    let enough : length c.args.graph.now ≤ c.loop-start.start = search rules in
    none_told c.loop-start.invariant.stands (left_all c.loop-start.search.marks.items c.loop-start.start (length c.args.graph.now) c.loop-start.invariant.left enough) c.first_cyclic.result c.as_slice.result.now c.as_slice.ensures.value c.first_cyclic.ensures.none
