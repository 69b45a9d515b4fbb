use Rattle.sc_candidates.proofs.kins.is_in_kin.Goals as goal

pub returns-then-are_kin : goal.returns-then-are_kin
returns-then-are_kin c = λ h. (c.are_kin.ensures c.if-are_kin.true, rw c.as_slice.ensures at c.is_among.ensures h)
