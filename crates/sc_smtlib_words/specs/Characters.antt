-- The characters of a text and of a field's name, read byte by byte from what is written of them.
use Rattle.std.specs.Prelude.{◌||◌, ◌==◌, ◌+◌, ◌*◌, ◌^◌, ℕ, Bool, nat_lt, List, [], ◌∷◌, ◌++◌, if◌then◌else◌}
use Rattle.std.specs.Char.{digit_value}
use Rattle.std.specs.List.{list_all}
pub use Rattle.sc_smtlib_words.specs.declared.characters.Place.{Place}
pub use Rattle.sc_smtlib_words.specs.declared.characters.Place.TheVariants.{Plain as plain, Quote as quote, Slash as slash, Letter as letter, Hex as hex}

abbrev pub is_character : ℕ → Bool
is_character c = nat_lt c 1114112

abbrev pub is_text : List ℕ → Bool
is_text t = list_all is_character t

-- a further hexadecimal digit; numbers past all characters stay as they are
abbrev pub more_hex : ℕ → ℕ → ℕ
more_hex n b = if nat_lt n (2 ^ 24) then n * 16 + digit_value b else n

abbrev pub text_at : Place → ℕ → List ℕ
text_at plain b = if b == 34 || b == 92 then [] else b ∷ []
text_at quote b = b ∷ []
text_at slash b = []
text_at letter b = []
text_at (hex n) b = if b == 125 then n ∷ [] else []

abbrev pub text_next : Place → ℕ → Place
text_next plain b = if b == 34 then quote else (if b == 92 then slash else plain)
text_next quote b = plain
text_next slash b = letter
text_next letter b = hex 0
text_next (hex n) b = if b == 125 then plain else hex (more_hex n b)

abbrev pub text_from : Place → List ℕ → List ℕ
text_from p [] = []
text_from p (b ∷ bs) = text_at p b ++ text_from (text_next p b) bs

abbrev pub label_at : Place → ℕ → List ℕ
label_at (hex n) b = if b == 125 then n ∷ [] else []
label_at _ b = if b == 123 then [] else b ∷ []

abbrev pub label_next : Place → ℕ → Place
label_next (hex n) b = if b == 125 then plain else hex (more_hex n b)
label_next _ b = if b == 123 then hex 0 else plain

abbrev pub label_from : Place → List ℕ → List ℕ
label_from p [] = []
label_from p (b ∷ bs) = label_at p b ++ label_from (label_next p b) bs

-- the characters that a written text, or a written name of a field, could only stand for
unfoldable pub text_in : List ℕ → List ℕ
text_in bytes = text_from plain bytes

unfoldable pub label_in : List ℕ → List ℕ
label_in bytes = label_from plain bytes
