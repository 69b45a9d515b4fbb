use Rattle.std.proofs.Common.{◌≡◌, ◌+◌, get_or, false}
use Rattle.sc_bits.specs.Blocks.{length_below}
use Rattle.sc_bits.proofs.address.prefix.Given as goal

abbrev pub invariant-loop-j : goal.invariant-loop-j
invariant-loop-j l = l.length ≡ length_below (λ j. get_or l.bits (1 + j) false) l.j
