use Rattle.std.proofs.Common.{◌≡◌, length, subst, rules}
use Rattle.sc_graphs.proofs.FoundLaws.{AllNew, search_first}
use Rattle.sc_graphs.proofs.path.Search.new.Goals as goal

pub returns-clause-stands : goal.returns-clause-stands
returns-clause-stands c =
    let all : c.loop.index ≡ length c.args.graph.now = search rules in
    search_first c.args.graph.now c.loop.marks.items (subst (AllNew c.loop.marks.items) all c.loop.invariant) c.new.result.items c.new-3.result.items c.new-2.result.items c.new.ensures.items c.new-3.ensures.items c.new-2.ensures.items
