use Rattle.sc_values.proofs.sets.subset.Goals as goal

pub returns-then-ascend : goal.returns-then-ascend
returns-then-ascend c = rw (← c.as_slice.ensures, ← c.as_slice-then-ascend.ensures) c.all_in.ensures
