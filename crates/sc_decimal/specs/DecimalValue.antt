-- The number that a text stands for, found by going through the text: what a definition can compute with. It decides
-- the relation `IsDecimalText`.
use Rattle.std.specs.Prelude.{ℕ, ◌+◌, ◌-◌, ◌*◌, ◌^◌, List, [], ◌∷◌, length, ℤ, pos, negsuc, neg_ℤ, Option, Some, None, Bool, true, ◌&&◌, ◌==◌, nat_lt, nat_le, if◌then◌else◌, option_map}
use Rattle.std.specs.Option.{option_and_then}
use Rattle.std.specs.Char.{digit_value}
use Rattle.std.specs.Str.Parse.{digits_value}

abbrev pub are_digits : List ℕ → Bool
are_digits [] = true
are_digits (c ∷ cs) = nat_lt (digit_value c) 10 && are_digits cs

abbrev pub is_numeral : List ℕ → Bool
is_numeral ds = nat_lt 0 (length ds) && are_digits ds

-- what stands before the first point, and behind it
abbrev pub cut_at_point : List ℕ → Option (List ℕ × List ℕ)
cut_at_point [] = None
cut_at_point (b ∷ bs) = if b == 46 then Some ([], bs) else option_map (λ p. (b ∷ p.0, p.1)) (cut_at_point bs)

-- how many ten-thousandths the two parts are
abbrev pub sum_of : List ℕ × List ℕ → Option ℕ
sum_of p = if is_numeral p.0 && (is_numeral p.1 && nat_le (length p.1) 4)
    then Some (digits_value 10 p.0 * 10000 + digits_value 10 p.1 * 10 ^ (4 - length p.1)) else None

abbrev pub magnitude_of : List ℕ → Option ℕ
magnitude_of text = option_and_then sum_of (cut_at_point text)

-- the number, if it fits a signed 64-bit number
abbrev pub in_range : ℤ → Option ℤ
in_range (pos n) = if nat_lt n (2 ^ 63) then Some (pos n) else None
in_range (negsuc n) = if nat_lt n (2 ^ 63) then Some (negsuc n) else None

unfoldable pub decimal_of : List ℕ → Option ℤ
decimal_of [] = None
decimal_of (b ∷ bs) = option_and_then in_range (if b == 45 then option_map (λ n. neg_ℤ (pos n)) (magnitude_of bs)
    else option_map pos (magnitude_of (b ∷ bs)))
