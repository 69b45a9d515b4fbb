use Rattle.std.proofs.Common.{◌^◌, ◌-◌}
use Rattle.sc_graphs.specs.Searches.{IsSearched}
use Rattle.sc_graphs.proofs.reaching.Reachability.of.Given as goal

abbrev pub invariant-loop-at : goal.invariant-loop-at
invariant-loop-at l = IsSearched l.fn.graph l.fn.start l.order.items l.at

abbrev pub decreases-loop-at : goal.decreases-loop-at
decreases-loop-at l = 2 ^ 64 - l.at
