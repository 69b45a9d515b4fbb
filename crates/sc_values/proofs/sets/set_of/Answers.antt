use Rattle.sc_values.proofs.SetLaws.{set_made}
use Rattle.sc_values.proofs.sets.set_of.Goals as goal

pub returns : goal.returns
returns c = set_made _ _ _ _ _ c.in_ok-copies.ensures c.from_vec.ensures c.in_ok-sort.ensures.permutation c.in_ok-sort.ensures.sorted c.dedup.ensures.filtered
