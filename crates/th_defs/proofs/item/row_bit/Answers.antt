use Rattle.std.proofs.Common.{arith}
use Rattle.th_defs.proofs.ReadLaws.{last_place, second_last_place, third_last_place, past_row}
use Rattle.th_defs.proofs.item.row_bit.Goals as goal

pub returns-then-place-count : goal.returns-then-place-count
returns-then-place-count c = past_row _ _ _ c.requires.row c.if-place-count.true

pub returns-in-0 : goal.returns-in-0
returns-in-0 c = last_place _ _ _ c.requires.few c.requires.row c.if-place-count.false c.in-0.is

pub returns-in-1 : goal.returns-in-1
returns-in-1 c = second_last_place _ _ _ c.requires.few c.requires.row c.if-place-count.false c.in-1.is

pub returns-in_default : goal.returns-in_default
returns-in_default c = third_last_place _ _ _ c.requires.few c.requires.row c.if-place-count.false (omega (arith, c.in_default))
