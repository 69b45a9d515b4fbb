use Rattle.std.proofs.Common.{◌≡◌, ◌+◌, ◌-◌, get_or, false}
use Rattle.sc_bits.specs.Bits.{number}
use Rattle.sc_bits.proofs.address.address.Given as goal

abbrev pub invariant-loop-i : goal.invariant-loop-i
invariant-loop-i l = l.number ≡ number (λ i. get_or l.bits (129 + (l.width - 1 - i)) false) l.i
