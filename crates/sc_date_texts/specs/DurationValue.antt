-- The duration that a text stands for, found by going through the text: what a definition can compute with. It decides
-- the relation `IsDurationText`.
use Rattle.std.specs.Prelude.{ℕ, ◌+◌, ◌*◌, ◌^◌, List, [], ◌∷◌, length, ℤ, pos, negsuc, neg_ℤ, Option, Some, None, Bool, ◌&&◌, ◌==◌, nat_lt, if◌then◌else◌, option_map}
use Rattle.std.specs.Option.{option_and_then}
use Rattle.std.specs.Str.{bytes_eq}
use Rattle.std.specs.Str.Parse.{digits_value}
use Rattle.sc_date_texts.specs.declared.unit.Unit.{Unit}
use Rattle.sc_date_texts.specs.Units.{word_of, milliseconds_of, all_units}
use Rattle.sc_date_texts.specs.Fronts.{front_digits, front_word, behind_word}

-- a text begins with digits and the word of a unit
abbrev pub begins_with_unit : Unit → List ℕ → Bool
begins_with_unit unit text = nat_lt 0 (length (front_digits text)) && bytes_eq (front_word text) (word_of unit)

abbrev pub sum_of : List Unit → List ℕ → Option ℕ
sum_of [] text = if length text == 0 then Some 0 else None
sum_of (unit ∷ smaller) text = if begins_with_unit unit text
    then option_map (λ m. digits_value 10 (front_digits text) * milliseconds_of unit + m)
    (sum_of smaller (behind_word text))
    else sum_of smaller text

abbrev pub magnitude_of : List ℕ → Option ℕ
magnitude_of text = if nat_lt 0 (length text) then sum_of all_units text else None

-- the number, if it fits a signed 64-bit number
abbrev pub in_range : ℤ → Option ℤ
in_range (pos n) = if nat_lt n (2 ^ 63) then Some (pos n) else None
in_range (negsuc n) = if nat_lt n (2 ^ 63) then Some (negsuc n) else None

unfoldable pub duration_of : List ℕ → Option ℤ
duration_of [] = None
duration_of (b ∷ bs) = option_and_then in_range
    (if b == 45 then option_map (λ n. neg_ℤ (pos n)) (magnitude_of bs) else option_map pos (magnitude_of (b ∷ bs)))
