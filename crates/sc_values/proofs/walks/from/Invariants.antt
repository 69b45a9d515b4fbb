use Rattle.std.proofs.Common.{◌≡◌, length}
use Rattle.sc_values.specs.Order.{value_cmp}
use Rattle.sc_values.specs.Walks.{from}
use Rattle.sc_values.proofs.walks.from.Given as goal

abbrev pub invariant-loop-first : goal.invariant-loop-first
invariant-loop-first l = from value_cmp l.x l.rest ≡ from value_cmp l.x l.values

abbrev pub decreases-loop-first : goal.decreases-loop-first
decreases-loop-first l = length l.rest
