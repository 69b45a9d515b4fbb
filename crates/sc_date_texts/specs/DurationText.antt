-- The texts of durations: which text stands for how many milliseconds. 45 is the byte of a minus.
use Rattle.std.specs.Prelude.{◌≡◌, ℕ, ◌+◌, ◌*◌, ◌<◌, List, [], ◌∷◌, ◌++◌, length, ℤ, pos, neg_ℤ, FitsSigned}
use Rattle.std.specs.Int.{w64}
use Rattle.std.specs.Fmt.{signed_decimal}
use Rattle.std.specs.Str.Parse.{IsNumeral, digits_value}
use Rattle.sc_date_texts.specs.declared.unit.Unit.{Unit}
use Rattle.sc_date_texts.specs.Units.{word_of, milliseconds_of, all_units}

-- digits with the word of a unit, each unit at most once and in this order
pub data IsParts : List Unit → List ℕ → ℕ → Type 0 where
  nothing : {text : List ℕ} {n : ℕ} → text ≡ [] → n ≡ 0 → IsParts [] text n
  without : {unit : Unit} {smaller : List Unit} {text : List ℕ} {n : ℕ} → IsParts smaller text n
      → IsParts (unit ∷ smaller) text n
  with_unit : {unit : Unit} {smaller : List Unit} {text : List ℕ} {n : ℕ} (digits rest : List ℕ) (m : ℕ)
      → text ≡ digits ++ (word_of unit ++ rest) → IsNumeral 10 digits → IsParts smaller rest m
      → n ≡ digits_value 10 digits * milliseconds_of unit + m → IsParts (unit ∷ smaller) text n

-- at least one of them, without a sign
pub record IsMagnitude (text : List ℕ) (n : ℕ) : Type 0 where
  pub not_empty : 0 < length text
  pub parts : IsParts all_units text n

-- a magnitude, perhaps after a minus
pub data IsSigned : List ℕ → ℤ → Type 0 where
  plain : {text : List ℕ} {n : ℕ} {z : ℤ} → IsMagnitude text n → z ≡ pos n → IsSigned text z
  minus : {text rest : List ℕ} {n : ℕ} {z : ℤ} → text ≡ 45 ∷ rest → IsMagnitude rest n → z ≡ neg_ℤ (pos n)
      → IsSigned text z

-- the text stands for so many milliseconds, which are in the range of a signed 64-bit number
pub record IsDurationText (text : List ℕ) (z : ℤ) : Type 0 where
  pub signed : IsSigned text z
  pub in_range : FitsSigned w64 z

-- the text that is written
abbrev pub duration_text : ℤ → List ℕ
duration_text z = signed_decimal z ++ (109 ∷ 115 ∷ [])
