-- Identifiers, and the paths that are made of them.
use Rattle.std.specs.Prelude.{◌&&◌, ◌||◌, ◌==◌, not, ℕ, List, [], ◌∷◌, Bool, false, codes}
use Rattle.std.specs.Char.{is_ascii_alphabetic, is_ascii_alphanumeric}
use Rattle.std.specs.Str.{bytes_eq}
use Rattle.std.specs.List.{list_all}

-- a letter or `_`
abbrev pub begins_word : ℕ → Bool
begins_word c = is_ascii_alphabetic c || (c == 95)

-- a letter, a digit or `_`
abbrev pub goes_on_word : ℕ → Bool
goes_on_word c = is_ascii_alphanumeric c || (c == 95)

-- a letter or `_`, and then letters, digits and `_`
abbrev pub is_word : List ℕ → Bool
is_word [] = false
is_word (c ∷ cs) = begins_word c && list_all goes_on_word cs

-- the words with a meaning of their own
abbrev pub is_reserved : List ℕ → Bool
is_reserved w =
    bytes_eq w (codes "true") || bytes_eq w (codes "false") || bytes_eq w (codes "if") || bytes_eq w
    (codes "then") || bytes_eq w (codes "else")
    || bytes_eq w (codes "in") || bytes_eq w (codes "like") || bytes_eq w (codes "is") || bytes_eq w
    (codes "has") || bytes_eq w (codes "__cedar")

-- a word that isn't reserved
abbrev pub is_ident : List ℕ → Bool
is_ident w = is_word w && not (is_reserved w)
