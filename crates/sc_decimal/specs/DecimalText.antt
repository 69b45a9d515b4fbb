-- The texts of decimal numbers: which text stands for which number, and the text that is written. A number is told
-- by how many ten-thousandths it is, and 46 and 45 are the bytes of a point and a minus.
use Rattle.std.specs.Prelude.{◌≡◌, ℕ, ◌+◌, ◌-◌, ◌*◌, ◌/◌, ◌%◌, ◌^◌, ◌≤◌, List, [], ◌∷◌, ◌++◌, length, ℤ, pos, negsuc, neg_ℤ, suc, FitsSigned}
use Rattle.std.specs.Int.{w64}
use Rattle.std.specs.Str.Parse.{IsNumeral, digits_value}
use Rattle.std.specs.Fmt.{decimal}

-- digits, a point and one to four digits, without a sign
pub record IsMagnitude (text : List ℕ) (n : ℕ) : Type 0 where
  pub whole : List ℕ
  pub fraction : List ℕ
  pub parts : text ≡ whole ++ (46 ∷ fraction)
  pub whole_digits : IsNumeral 10 whole
  pub fraction_digits : IsNumeral 10 fraction
  pub at_most_four : length fraction ≤ 4
  pub value : n ≡ digits_value 10 whole * 10000 + digits_value 10 fraction * 10 ^ (4 - length fraction)

-- a magnitude, perhaps after a minus
pub data IsSigned : List ℕ → ℤ → Type 0 where
  plain : {text : List ℕ} {n : ℕ} {z : ℤ} → IsMagnitude text n → z ≡ pos n → IsSigned text z
  minus : {text rest : List ℕ} {n : ℕ} {z : ℤ} → text ≡ 45 ∷ rest → IsMagnitude rest n → z ≡ neg_ℤ (pos n)
      → IsSigned text z

-- the text stands for the number, which is in the range of a signed 64-bit number
pub record IsDecimalText (text : List ℕ) (z : ℤ) : Type 0 where
  pub signed : IsSigned text z
  pub in_range : FitsSigned w64 z

-- the four digits of a number below 10000
abbrev pub four_digits : ℕ → List ℕ
four_digits n = (48 + n / 1000) ∷ (48 + n / 100 % 10) ∷ (48 + n / 10 % 10) ∷ (48 + n % 10) ∷ []

-- the whole part, a point and four digits
abbrev pub magnitude_text : ℕ → List ℕ
magnitude_text n = decimal (n / 10000) ++ (46 ∷ four_digits (n % 10000))

-- the text that is written
abbrev pub decimal_text : ℤ → List ℕ
decimal_text (pos n) = magnitude_text n
decimal_text (negsuc n) = 45 ∷ magnitude_text (suc n)
