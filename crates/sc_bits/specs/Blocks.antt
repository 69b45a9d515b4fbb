-- Internet addresses with a prefix, by their bits: bit 0 says version 6, bits 1 to 128 are the prefix as a mask (as
-- many first bits as it is long), and bits 129 to 256 the address from its highest bit, one of version 4 in the first
-- 32.
use Rattle.std.specs.Prelude.{ℕ, zero, suc, ◌+◌, ◌-◌, ◌/◌, ◌^◌, ◌<◌, ◌≤◌, ◌==◌, nat_lt, nat_le, if◌then◌else◌, Bool, true, false, not, ◌&&◌, ◌||◌, IsTrue}
use Rattle.sc_bits.specs.Bits.{number, nat_bit}
use Rattle.sc_bits.specs.Adders.{differ}

pub record Block : Type 0 where
  pub is_v6 : Bool
  pub address : ℕ
  pub prefix : ℕ

abbrev pub width_by : Bool → ℕ
width_by false = 32
width_by true = 128

abbrev pub width_of : Block → ℕ
width_of a = width_by a.is_v6

-- address and prefix are within the version's bits
pub record IsBlock (a : Block) : Type 0 where
  pub address_fits : a.address < 2 ^ width_of a
  pub prefix_fits : a.prefix ≤ width_of a

-- ---- the bits

abbrev pub mask_bit : Block → ℕ → Bool
mask_bit a j = nat_lt j a.prefix

abbrev pub address_bit : Block → ℕ → Bool
address_bit a j = nat_lt j (width_of a) && nat_bit a.address (width_of a - 1 - j)

abbrev pub block_bit : Block → ℕ → Bool
block_bit a k = if k == 0 then a.is_v6 else (if nat_le k 128 then mask_bit a (k - 1) else address_bit a (k - 129))

-- ---- a range within another

-- the versions are equal, a leaves at most as many bits free as b, and the bits that b holds fast agree
abbrev pub block_in_range : Block → Block → Bool
block_in_range a b = not (differ a.is_v6 b.is_v6)
    && (nat_le (width_of b - a.prefix) (width_of b - b.prefix)
    && (a.address / 2 ^ (width_of b - b.prefix) == b.address / 2 ^ (width_of b - b.prefix)))

-- place j is free in b, or held fast in a too, where the addresses agree
abbrev pub agrees_at : (ℕ → Bool) → (ℕ → Bool) → ℕ → Bool
agrees_at f g j = not (g (1 + j)) || (f (1 + j) && not (differ (f (129 + j)) (g (129 + j))))

pub record AgreeInRange (f g : ℕ → Bool) : Type 0 where
  pub version : IsTrue (not (differ (f 0) (g 0)))
  pub places : (j : ℕ) → j < 128 → IsTrue (agrees_at f g j)

-- ---- which bits are those of an address

pub record AreBlockBits (f : ℕ → Bool) : Type 0 where
  pub mask : (j : ℕ) → j < 127 → IsTrue (not (f (2 + j)) || f (1 + j))
  pub short_mask : (j : ℕ) → 32 ≤ j → j < 128 → IsTrue (f 0 || not (f (1 + j)))
  pub short_address : (j : ℕ) → 32 ≤ j → j < 128 → IsTrue (f 0 || not (f (129 + j)))

-- one more than the place of the highest bit set below n
unfoldable pub length_below : (ℕ → Bool) → ℕ → ℕ
length_below g zero = 0
length_below g (suc n) = if g n then suc n else length_below g n

-- the address that has these bits
abbrev pub block_of : (ℕ → Bool) → Block
block_of f = record {
  is_v6 = f 0;
  address = number (λ i. f (129 + (width_by (f 0) - 1 - i))) (width_by (f 0));
  prefix = length_below (λ j. f (1 + j)) 128;
}
