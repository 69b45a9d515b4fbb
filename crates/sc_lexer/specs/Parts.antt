-- The parts of a string, by their lengths. No public promise speaks of them.
use Rattle.std.specs.Prelude.{◌≡◌, ℕ, ◌≤◌, ◌<◌, Bool, true, List, ◌∷◌, ◌++◌, length, take}
use Rattle.sc_lexer.specs.declared.piece.Piece.{Piece}
use Rattle.sc_lexer.specs.declared.piece.Piece.TheVariants.{Char, Star, EscapedStar}
use Rattle.sc_lexer.specs.Escapes.{IsEscape, IsSpelled}

-- whether an escape with this meaning may stand in a string; like tells that the string is a pattern
abbrev pub allows : Bool → Piece → Bool
allows like (Char c) = true
allows like Star = true
allows like EscapedStar = like

-- the first n bytes are one that stands for itself, or an escape with its backslash
pub record IsPart (like : Bool) (bytes : List ℕ) (n : ℕ) : Type 0 where
  pub within : n ≤ length bytes
  pub some : 0 < n
  pub spelled : IsSpelled like (take n bytes)

-- a backslash begins the bytes, and no escape
pub record BeginsBadEscape (like : Bool) (bytes : List ℕ) : Type 0 where
  pub after : List ℕ
  pub parts : bytes ≡ 92 ∷ after
  pub bad : (e rest : List ℕ) → after ≡ e ++ rest → IsEscape like e → ⊥
