use Rattle.std.proofs.Common.{◌∙◌, ap}
use Rattle.sc_lists.proofs.OrderedLaws.{none_ascends}
use Rattle.sc_model_worlds.proofs.OrderLaws.{ordered_from, ordered_all}
use Rattle.sc_model_worlds.proofs.ordering.in_order.Goals as goal

pub loop-item-init : goal.loop-item-init
loop-item-init g c = record {
  left = ap (λ zs. ordered_from g.K.Ord.cmp zs c.args.items.items) c.new-sorted.ensures ∙ ordered_all g.K.Ord.cmp c.args.items.items;
  ascending = none_ascends g.K.Ord.cmp c.new-sorted.result c.new-sorted.ensures;
}
