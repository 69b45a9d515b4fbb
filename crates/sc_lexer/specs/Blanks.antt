-- White space and comments, which stand between tokens.
use Rattle.std.specs.Prelude.{◌≡◌, ◌≢◌, ℕ, ◌==◌, ◌||◌, not, List, [], ◌∷◌, ◌++◌, Bool, true, codes, ⊤}
use Rattle.std.specs.Char.{IsScalar, encode_utf8, is_whitespace}
use Rattle.std.specs.List.{list_all}

-- U+000A or U+000D
abbrev pub ends_line : ℕ → Bool
ends_line c = (c == 10) || (c == 13)

abbrev pub stays_in_line : ℕ → Bool
stays_in_line c = not (ends_line c)

-- a line ends before these bytes, or with the file
abbrev pub EndsLine : List ℕ → Type 0
EndsLine [] = ⊤
EndsLine (c ∷ cs) = ends_line c ≡ true

-- no white space begins the bytes
pub record BeginsNoSpace (bytes : List ℕ) : Type 0 where
  pub space : (c : ℕ) (rest : List ℕ) → IsScalar c → is_whitespace c ≡ true → bytes ≢ encode_utf8 c ++ rest

-- no comment begins the bytes
pub record BeginsNoComment (bytes : List ℕ) : Type 0 where
  pub slashes : (rest : List ℕ) → bytes ≢ codes "//" ++ rest

-- after all the white space and comments that the first bytes begin with, the second are left
pub data Skips : List ℕ → List ℕ → Type 0 where
  none : (bytes : List ℕ) → BeginsNoSpace bytes → BeginsNoComment bytes → Skips bytes bytes
  space : (c : ℕ) (rest left : List ℕ) → is_whitespace c ≡ true → Skips rest left → Skips (encode_utf8 c ++ rest) left
  comment : (line rest left : List ℕ) → list_all stays_in_line line ≡ true → EndsLine rest → Skips rest left
      → Skips (codes "//" ++ (line ++ rest)) left

-- what is left after white space and comments of the second bytes is left of the first
pub record Leads (bytes rest : List ℕ) : Type 0 where
  pub leads : (left : List ℕ) → Skips rest left → Skips bytes left
