-- Escapes in strings, and what they stand for.
use Rattle.std.specs.Prelude.{◌≡◌, ◌≢◌, ℕ, ◌+◌, ◌≤◌, ◌==◌, ◌&&◌, ◌||◌, nat_eq, nat_le, slice_index, if◌then◌else◌, List, [], ◌∷◌, ◌++◌, length, take, Bool, true, codes}
use lib.Utf8.{scalar}
use Rattle.std.specs.Char.{IsScalar, is_ascii_hexdigit}
use Rattle.std.specs.Str.Parse.{digits_value}
use Rattle.std.specs.List.{list_all, take_while}
use Rattle.std.specs.declared.option.Option.{Option}
use Rattle.std.specs.declared.option.Option.TheVariants.{Some, None}
use Rattle.sc_lexer.specs.declared.piece.Piece.TheVariants.{Char, EscapedStar}
use Rattle.sc_lexer.specs.declared.piece.Escape.{Escape}

-- the characters that may stand alone after a backslash in any string: n, r, t, 0, the backslash and both quotes
abbrev pub is_letter : ℕ → Bool
is_letter c = (c == 110) || (c == 114) || (c == 116) || (c == 48) || (c == 92) || (c == 34) || (c == 39)

-- what stands after the backslash of an escape; like tells that the string's is a pattern's
pub data IsEscape (like : Bool) : List ℕ → Type 0 where
  letter : (c : ℕ) → is_letter c ≡ true → IsEscape like (c ∷ [])
  star : like ≡ true → IsEscape like (codes "*")
  ascii : (digits : List ℕ) → list_all is_ascii_hexdigit digits ≡ true → length digits ≡ 2
      → digits_value 16 digits ≤ 127 → IsEscape like (codes "x" ++ digits)
  code : (digits : List ℕ) → list_all is_ascii_hexdigit digits ≡ true → 1 ≤ length digits → length digits ≤ 6
      → IsScalar (digits_value 16 digits)
      → IsEscape like (codes "u{" ++ (digits ++ codes "}"))

-- the bytes are escapes and bytes that stand for themselves
pub data IsSpelled (like : Bool) : List ℕ → Type 0 where
  ends : IsSpelled like []
  plain : (c : ℕ) (rest : List ℕ) → c ≢ 92 → IsSpelled like rest → IsSpelled like (c ∷ rest)
  escape : (e rest : List ℕ) → IsEscape like e → IsSpelled like rest → IsSpelled like (92 ∷ (e ++ rest))

-- the first backslash that begins no escape, with what stands before it and after it
pub record IsBadEscape (like : Bool) (bytes before after : List ℕ) : Type 0 where
  pub parts : bytes ≡ before ++ (92 ∷ after)
  pub spelled : IsSpelled like before
  pub bad : (e rest : List ℕ) → after ≡ e ++ rest → IsEscape like e → ⊥

-- n, r, t and 0 stand for a newline, a carriage return, a tab and U+0000, the others for themselves
abbrev pub letter_char : ℕ → ℕ
letter_char c = if c == 110 then 10 else (if c == 114 then 13 else (if c == 116 then 9 else (if c == 48 then 0 else c)))

-- the escape after whose `x` these bytes stand
unfoldable pub ascii_of : List ℕ → Option Escape
ascii_of bytes =
    let digits = take 2 (take_while is_ascii_hexdigit bytes) in
    if nat_eq (length digits) 2 && nat_le (digits_value 16 digits) 127
    then Some (record { piece = Char (digits_value 16 digits); len = 3 }) else None

-- the escape after whose `u{` these bytes stand
unfoldable pub braced_of : List ℕ → Option Escape
braced_of bytes =
    let digits = take_while is_ascii_hexdigit bytes in
    if nat_le 1 (length digits) && nat_le (length digits) 6 && (slice_index bytes (length digits) == 125)
    && scalar (digits_value 16 digits)
    then Some (record { piece = Char (digits_value 16 digits); len = length digits + 3 }) else None

-- the escape after whose `u` these bytes stand
unfoldable pub scalar_of : List ℕ → Option Escape
scalar_of [] = None
scalar_of (c ∷ cs) = if c == 123 then braced_of cs else None

-- the escape of a pattern after whose backslash these bytes stand
unfoldable pub escape_of : List ℕ → Option Escape
escape_of [] = None
escape_of (c ∷ cs) =
    if is_letter c then Some (record { piece = Char (letter_char c); len = 1 })
    else (if c == 42 then Some (record { piece = EscapedStar; len = 1 })
    else (if c == 120 then ascii_of cs
    else (if c == 117 then scalar_of cs
    else None)))
