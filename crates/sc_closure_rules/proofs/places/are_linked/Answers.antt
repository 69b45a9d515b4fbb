use Rattle.sc_closure_rules.proofs.LinkingLaws.{linked_apart, linked_by}
use Rattle.sc_closure_rules.proofs.places.are_linked.Goals as goal

pub returns-then-not-is_one_sort : goal.returns-then-not-is_one_sort
returns-then-not-is_one_sort c = linked_apart _ _ _ c.is_one_sort.ensures c.if-not-is_one_sort.true

pub returns : goal.returns
returns c = linked_by _ _ _ _ _ _ c.is_one_sort.ensures c.if-not-is_one_sort.false c.roots-first.ensures.are c.are_own.ensures
