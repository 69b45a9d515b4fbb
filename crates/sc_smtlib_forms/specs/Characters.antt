-- Texts and names as they are written in a script.
use Rattle.std.specs.Prelude.{◌&&◌, ◌||◌, ◌==◌, ℕ, Bool, false, List, [], ◌∷◌, ◌++◌, nat_lt, nat_le, if◌then◌else◌}
use Rattle.std.specs.List.{flat_map}
use Rattle.std.specs.Fmt.{digits}
use Rattle.std.specs.Str.{chars}

-- `{hex}`, in lower case and without leading zeros
abbrev pub in_braces : ℕ → List ℕ
in_braces c = 123 ∷ (digits 16 false c ++ 125 ∷ [])

abbrev pub is_letter_or_digit : ℕ → Bool
is_letter_or_digit c = c == 95 ||
    ((nat_le 48 c && nat_le c 57) || ((nat_le 65 c && nat_le c 90) || (nat_le 97 c && nat_le c 122)))

-- a character of a field's name: letters, digits and `_` as they are, others as `{hex}`
abbrev pub label_character : ℕ → List ℕ
label_character c = if is_letter_or_digit c then c ∷ [] else in_braces c

-- a character of a text: a quote is doubled, a backslash and all outside 32 to 126 is `\u{hex}`
abbrev pub text_character : ℕ → List ℕ
text_character c =
    if c == 34 then 34 ∷ 34 ∷ []
    else (if c == 92 || (nat_lt c 32 || nat_lt 126 c) then 92 ∷ 117 ∷ in_braces c else c ∷ [])

-- the name of a field, between bars
abbrev pub label_text : List ℕ → List ℕ
label_text name = flat_map label_character (chars name)

-- a text, between quotes
abbrev pub inner_text : List ℕ → List ℕ
inner_text text = flat_map text_character (chars text)
