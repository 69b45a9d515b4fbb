use Rattle.std.proofs.Common.{take}
use Rattle.sc_graphs.proofs.SearchLaws.{IsVisited}
use Rattle.sc_graphs.proofs.reaching.Reachability.visit.Given as goal

abbrev pub invariant-loop-node : goal.invariant-loop-node
invariant-loop-node l = IsVisited l.fn.order.items (take l.node-index l.fn.nodes) l.order.items
