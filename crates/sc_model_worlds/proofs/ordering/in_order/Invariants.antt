use Rattle.std.proofs.Common.{◌≡◌, length}
use Rattle.std.specs.List.Sorted.{IsStrictlySortedBy}
use Rattle.sc_model_world_laws.specs.Rebuilt.{in_order}
use Rattle.sc_model_worlds.proofs.OrderLaws.{ordered_from}
use Rattle.sc_model_worlds.proofs.ordering.in_order.Given as goal

abbrev pub invariant-loop-item : goal.invariant-loop-item
invariant-loop-item g l = record {
  left : ordered_from g.K.Ord.cmp l.sorted l.items.items ≡ in_order g.K.Ord.cmp l.fn.items.items;
  ascending : IsStrictlySortedBy g.K.Ord.cmp l.sorted;
}

abbrev pub decreases-loop-item : goal.decreases-loop-item
decreases-loop-item g l = length l.items.items
