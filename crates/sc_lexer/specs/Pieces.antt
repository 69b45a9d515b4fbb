-- What the text of a string token stands for: a relation says it, and a function gives it.
use Rattle.std.specs.Prelude.{◌≡◌, ◌≢◌, ℕ, zero, suc, ◌-◌, ◌==◌, if◌then◌else◌, List, [], ◌∷◌, ◌++◌, length, take, drop, map, true, codes}
use Rattle.std.specs.Str.{is_utf8, chars, encode_utf8_all}
use Rattle.std.specs.Str.Parse.{digits_value}
use Rattle.std.specs.declared.option.Option.{Option}
use Rattle.std.specs.declared.option.Option.TheVariants.{Some, None}
use Rattle.sc_lexer.specs.declared.piece.Piece.{Piece}
use Rattle.sc_lexer.specs.declared.piece.Piece.TheVariants.{Char, Star, EscapedStar}
use Rattle.sc_lexer.specs.declared.piece.Escape.{Escape}
use Rattle.sc_lexer.specs.Escapes.{is_letter, letter_char, IsEscape, escape_of}

-- what an escape stands for, by what follows its backslash
pub data Means : List ℕ → Piece → Type 0 where
  of_letter : (c : ℕ) → is_letter c ≡ true → Means (c ∷ []) (Char (letter_char c))
  of_star : Means (codes "*") EscapedStar
  of_ascii : (digits : List ℕ) → Means (codes "x" ++ digits) (Char (digits_value 16 digits))
  of_code : (digits : List ℕ) → Means (codes "u{" ++ (digits ++ codes "}")) (Char (digits_value 16 digits))

-- what the characters between the quotes of a string stand for
pub data Spells : List ℕ → List Piece → Type 0 where
  nothing : Spells [] []
  character : (c : ℕ) (cs : List ℕ) (ps : List Piece) → c ≢ 92 → c ≢ 42 → Spells cs ps → Spells (c ∷ cs) (Char c ∷ ps)
  wildcard : (cs : List ℕ) (ps : List Piece) → Spells cs ps → Spells (42 ∷ cs) (Star ∷ ps)
  escaped : (e cs : List ℕ) (p : Piece) (ps : List Piece) → IsEscape true e → Means e p → Spells cs ps
      → Spells (92 ∷ (e ++ cs)) (p ∷ ps)

-- the bytes between the quotes of a string
abbrev pub quoted : List ℕ → List ℕ
quoted text = take (length text - 2) (drop 1 text)

-- what an escape stands for; a backslash that begins none, of which no token has one, stands for itself
abbrev pub escape_piece : Option Escape → Piece
escape_piece (Some e) = e.piece
escape_piece None = Char 92

-- how many characters an escape has after its backslash
abbrev pub escape_len : Option Escape → ℕ
escape_len (Some e) = e.len
escape_len None = 0

-- what some characters stand for, of which the first n belong to the piece before them
unfoldable pub pieces_after : ℕ → List ℕ → List Piece
pieces_after n [] = []
pieces_after (suc n) (c ∷ cs) = pieces_after n cs
pieces_after zero (c ∷ cs) =
    (if c == 92 then escape_piece (escape_of cs) else (if c == 42 then Star else Char c))
    ∷ pieces_after (if c == 92 then escape_len (escape_of cs) else 0) cs

-- what a string stands for in a pattern, by its text with the quotes; bytes that are no text stand for nothing
unfoldable pub pieces_of : List ℕ → List Piece
pieces_of text = if is_utf8 (quoted text) then pieces_after 0 (chars (quoted text)) else []

-- the character that a piece is in a string that is no pattern
abbrev pub piece_char : Piece → ℕ
piece_char (Char c) = c
piece_char Star = 42
piece_char EscapedStar = 42

-- the string that a token's text stands for, in UTF-8
unfoldable pub string_of : List ℕ → List ℕ
string_of text = encode_utf8_all (map piece_char (pieces_of text))
