-- The texts of addresses: which text stands for which address, and the text that is written. 46, 47 and 58 are the
-- bytes of a dot, a slash and a colon.
use Rattle.std.specs.Prelude.{◌≡◌, ℕ, ◌+◌, ◌-◌, ◌/◌, ◌%◌, ◌^◌, ◌<◌, ◌≤◌, List, [], ◌∷◌, ◌++◌, length, map, replicate, false}
use Rattle.std.specs.List.{join_with_byte}
use Rattle.std.specs.Str.Parse.{IsNumeral, digits_value}
use Rattle.std.specs.Int.Digits.{number_from_digits}
use Rattle.std.specs.Fmt.{decimal, digits}
use Rattle.sc_ip.specs.declared.ip.Ip.{Ip}
use Rattle.sc_ip.specs.declared.ip.Ip.TheVariants.{V4, V6}
use Rattle.sc_ip.specs.Addresses.{width_of}

-- a number to 255 in decimal, without leading zeros
abbrev pub IsDecimalGroup : List ℕ → ℕ → Type 0
IsDecimalGroup text n = (n < 256) × (text ≡ decimal n)

-- one to four hexadecimal digits, in either case
abbrev pub IsHexadecimalGroup : List ℕ → ℕ → Type 0
IsHexadecimalGroup text n = IsNumeral 16 text × (length text ≤ 4) × (n ≡ digits_value 16 text)

-- groups that stand for these numbers, with a separator between each two
abbrev pub AreGroups : ℕ → (List ℕ → ℕ → Type 0) → List ℕ → List ℕ → Type 0
AreGroups separator IsGroup text [] = text ≡ []
AreGroups separator IsGroup text (n ∷ []) = IsGroup text n
AreGroups separator IsGroup text (n ∷ m ∷ others) =
    (group : List ℕ) × (rest : List ℕ) × (text ≡ group ++ (separator ∷ rest)) × IsGroup group n
    × AreGroups separator IsGroup rest (m ∷ others)

-- four decimal groups between dots
pub record IsV4Text (text : List ℕ) (address : ℕ) : Type 0 where
  pub numbers : List ℕ
  pub groups : AreGroups 46 IsDecimalGroup text numbers
  pub four : length numbers ≡ 4
  pub value : address ≡ number_from_digits 256 numbers

-- eight hexadecimal groups between colons
pub record IsFullText (text : List ℕ) (address : ℕ) : Type 0 where
  pub numbers : List ℕ
  pub groups : AreGroups 58 IsHexadecimalGroup text numbers
  pub eight : length numbers ≡ 8
  pub value : address ≡ number_from_digits 65536 numbers

-- at most seven groups, in front of two colons and behind, which stand for the others, all zero
pub record IsGap (front back : List ℕ) (address : ℕ) : Type 0 where
  pub before : List ℕ
  pub after : List ℕ
  pub front_groups : AreGroups 58 IsHexadecimalGroup front before
  pub back_groups : AreGroups 58 IsHexadecimalGroup back after
  pub at_most_seven : length before + length after ≤ 7
  pub value : address ≡ number_from_digits 65536 (before ++ (replicate (8 - (length before + length after)) 0 ++ after))

pub data IsV6Text : List ℕ → ℕ → Type 0 where
  full : {text : List ℕ} {address : ℕ} → IsFullText text address → IsV6Text text address
  gap : {text front back : List ℕ} {address : ℕ} → text ≡ front ++ (58 ∷ 58 ∷ back) → IsGap front back address
      → IsV6Text text address

-- an address without a prefix, which is of all bits
pub data IsAddressText : List ℕ → Ip → Type 0 where
  v4 : {text : List ℕ} {address : ℕ} {a : Ip} → IsV4Text text address → a ≡ V4 address 32 → IsAddressText text a
  v6 : {text : List ℕ} {address : ℕ} {a : Ip} → IsV6Text text address → a ≡ V6 address 128 → IsAddressText text a

abbrev pub with_prefix : Ip → ℕ → Ip
with_prefix (V4 address old) prefix = V4 address prefix
with_prefix (V6 address old) prefix = V6 address prefix

-- the text stands for the address with its prefix: an address alone, or a slash and a prefix without leading zeros
-- behind
pub data IsIpText : List ℕ → Ip → Type 0 where
  alone : {text : List ℕ} {a : Ip} → IsAddressText text a → IsIpText text a
  prefixed : {text part : List ℕ} {prefix : ℕ} {a b : Ip} → text ≡ part ++ (47 ∷ decimal prefix)
      → IsAddressText part b → prefix ≤ width_of b → a ≡ with_prefix b prefix → IsIpText text a

-- the groups of an address, the highest first
abbrev pub bytes_of : ℕ → List ℕ
bytes_of address = map (λ place. address / 256 ^ place % 256) (3 ∷ 2 ∷ 1 ∷ 0 ∷ [])

abbrev pub groups_of : ℕ → List ℕ
groups_of address = map (λ place. address / 65536 ^ place % 65536) (7 ∷ 6 ∷ 5 ∷ 4 ∷ 3 ∷ 2 ∷ 1 ∷ 0 ∷ [])

-- the text that is written: all groups, without leading zeros and in lower case, a slash and the prefix
abbrev pub ip_text : Ip → List ℕ
ip_text (V4 address prefix) = join_with_byte 46 (map decimal (bytes_of address)) ++ (47 ∷ decimal prefix)
ip_text (V6 address prefix) = join_with_byte 58 (map (digits 16 false) (groups_of address)) ++ (47 ∷ decimal prefix)
