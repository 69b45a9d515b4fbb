use Rattle.sc_names.proofs.LitsLaws.{ascending, members}
use Rattle.sc_names.proofs.lits.set_of.Goals as goal

pub invariant_of-result : goal.invariant_of-result
invariant_of-result c = ascending _ _ c.in_ok-sort.ensures.sorted c.dedup.ensures.filtered

pub returns : goal.returns
returns c = members _ _ _ c.in_ok-sort.ensures.permutation c.dedup.ensures.filtered
