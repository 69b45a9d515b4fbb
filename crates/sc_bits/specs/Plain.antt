-- The same bits by plain integers, with no recursion over bits: the remainder modulo a power of two says what the
-- lowest bits of an integer are, and carries, comparisons and rows are read off remainders.
use Rattle.std.specs.Prelude.{ℕ, ◌+◌, ◌-◌, ◌*◌, ◌%◌, ◌^◌, nat_lt, nat_le, Bool, ℤ, pos, negsuc}
use Rattle.sc_bits.specs.Bits.{digit, nat_bit, bit64}

-- what an integer leaves modulo 2 ^ n, from 0 to 2 ^ n - 1
abbrev pub residue : ℤ → ℕ → ℕ
residue (pos m) n = m % 2 ^ n
residue (negsuc m) n = 2 ^ n - 1 - m % 2 ^ n

-- the carry into bit i of a sum: the lowest i bits of both come to 2 ^ i or more
abbrev pub sum_carry : ℤ → ℤ → ℕ → Bool
sum_carry a b i = nat_le (2 ^ i) (residue a i + residue b i)

-- the carry into bit i of a plus the complement of b plus 1: nothing is borrowed, since the lowest i bits of b are at
-- most those of a
abbrev pub difference_carry : ℤ → ℤ → ℕ → Bool
difference_carry a b i = nat_le (residue b i) (residue a i)

-- the lowest i bits of a are less than those of b
abbrev pub low_bits_less : ℤ → ℤ → ℕ → Bool
low_bits_less a b i = nat_lt (residue a i) (residue b i)

-- the sum modulo 2 ^ 128 of the first i partial products of a and b: a times the lowest i bits of b
abbrev pub row_sum : ℤ → ℤ → ℕ → ℕ
row_sum a b i = residue a 128 * residue b i % 2 ^ 128

-- the partial product i, modulo 2 ^ 128: a shifted up by i places where b has its bit i, else 0
abbrev pub partial_product : ℤ → ℤ → ℕ → ℕ
partial_product a b i = digit (bit64 b i) * residue a 128 * 2 ^ i % 2 ^ 128

-- bit j of the sum of the first i partial products
abbrev pub row_bit : ℤ → ℤ → ℕ → ℕ → Bool
row_bit a b i j = nat_bit (row_sum a b i) j

-- the carry into bit j when the partial product i is added to those before it: the lowest j bits of both come to 2 ^
-- j or more
abbrev pub row_carry : ℤ → ℤ → ℕ → ℕ → Bool
row_carry a b i j = nat_le (2 ^ j) (row_sum a b i % 2 ^ j + partial_product a b i % 2 ^ j)
