-- The definitions at numbers.
use Rattle.std.proofs.Common.{◌≡◌, true, false, pos, negsuc, refl}
use Rattle.sc_bits.specs.Bits.{number, bit64, of_bits}
use Rattle.sc_bits.specs.Adders.{carry, carry_of_sum, added, complement, leaves64}
use Rattle.sc_bits.specs.Orders.{low, slt}
use Rattle.sc_bits.specs.Plain.{residue, sum_carry, difference_carry, row_bit, row_carry}
use Rattle.sc_bits.specs.Products.{prow}
use Rattle.sc_bits.specs.Blocks.{Block, block_bit, block_in_range, length_below, block_of}
use Rattle.std.specs.Int.{w64}

-- 5 is 101, and -5 ends in 011
five : bit64 (pos 5) 2 ≡ true
five = refl

minus_five : bit64 (negsuc 4) 2 ≡ false
minus_five = refl

minus_five_sign : bit64 (negsuc 4) 63 ≡ true
minus_five_sign = refl

back : of_bits w64 (bit64 (negsuc 4)) ≡ negsuc 4
unfolding of_bits number
back = refl

-- 3 + 1 carries into bit 2, and 1 - 2 has every bit
carried : carry_of_sum (pos 3) (pos 1) 2 ≡ true
unfolding carry
carried = refl

borrowed : added true (bit64 (pos 1)) (complement (bit64 (pos 2))) 63 ≡ true
unfolding carry
borrowed = refl

greatest : leaves64 (pos 9223372036854775807) ≡ false
greatest = refl

past_greatest : leaves64 (pos 9223372036854775808) ≡ true
past_greatest = refl

least : leaves64 (negsuc 9223372036854775807) ≡ false
least = refl

less : slt (bit64 (negsuc 0)) (bit64 (pos 0)) ≡ true
unfolding low
less = refl

not_less : slt (bit64 (pos 0)) (bit64 (negsuc 0)) ≡ false
unfolding low
not_less = refl

-- 3 * 5 is 1111
fifteen : prow (bit64 (pos 3)) (bit64 (pos 5)) 4 3 ≡ true
unfolding prow carry
fifteen = refl

no_sixteen : prow (bit64 (pos 3)) (bit64 (pos 5)) 4 4 ≡ false
unfolding prow carry
no_sixteen = refl

-- 192.168.0.1/24
abbrev home : Block
home = record { is_v6 = false; address = 0xc0a8_0001; prefix = 24 }

in_mask : block_bit home 24 ≡ true
in_mask = refl

past_mask : block_bit home 25 ≡ false
past_mask = refl

highest : block_bit home 129 ≡ true
highest = refl

third : block_bit home 131 ≡ false
third = refl

lowest : block_bit home 160 ≡ true
lowest = refl

past_address : block_bit home 161 ≡ false
past_address = refl

found : block_of (block_bit home) ≡ home
unfolding number length_below
found = refl

within : block_in_range home (record { is_v6 = false; address = 0xc0a8_ffff; prefix = 16 }) ≡ true
within = refl

without : block_in_range home (record { is_v6 = false; address = 0xc0a8_0001; prefix = 25 }) ≡ false
without = refl

-- the same by plain integers: -5 leaves 3 modulo 8
minus_five_left : residue (negsuc 4) 3 ≡ 3
minus_five_left = refl

plainly_carried : sum_carry (pos 3) (pos 1) 2 ≡ true
plainly_carried = refl

plainly_borrowed : difference_carry (pos 1) (pos 2) 63 ≡ false
plainly_borrowed = refl

fifteen_left : row_bit (pos 3) (pos 5) 4 3 ≡ true
fifteen_left = refl

-- 3 and 3 * 4 have no bit in common, so nothing is carried when the third partial product is added
nothing_carried : row_carry (pos 3) (pos 5) 2 4 ≡ false
nothing_carried = refl
