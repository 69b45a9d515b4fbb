use Rattle.sc_bits.proofs.PlainLaws.{carry_of_sum-plain, carry_of_difference-plain, low-plain, prow-plain, pcar-plain}
use Rattle.sc_bits.proofs.laws.plain_laws.Goals as goal

pub returns : goal.returns
returns c = record { sum_carries = carry_of_sum-plain; difference_carries = carry_of_difference-plain; low_bits = low-plain; rows = prow-plain; row_carries = pcar-plain }
