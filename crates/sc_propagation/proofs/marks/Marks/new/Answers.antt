use Rattle.sc_propagation.proofs.MarkLaws.{none_marked, first-no_later}
use Rattle.sc_propagation.proofs.marks.Marks.new.Goals as goal

pub invariant_of-result : goal.invariant_of-result
invariant_of-result c = first-no_later _ c.args.count (c.in_ok-from_elem.ensures.items_if_clones_equal (λ y e. e))

pub returns : goal.returns
returns c = none_marked _ c.args.count (c.in_ok-from_elem.ensures.items_if_clones_equal (λ y e. e))
