-- Worked rows of what strings stand for.
use Rattle.std.proofs.Common.{◌≡◌, [], ◌∷◌, refl}
use lib.Utf8.{encode}
use Rattle.std.specs.Prelude.{codes}
use Rattle.std.specs.Str.{chars, is_utf8}
use Rattle.sc_lexer.specs.declared.piece.Piece.TheVariants.{Char, Star, EscapedStar}
use Rattle.sc_lexer.specs.Escapes.{ascii_of, braced_of, scalar_of, escape_of}
use Rattle.sc_lexer.specs.Pieces.{pieces_after, pieces_of, string_of}

-- `""`
pub empty : pieces_of (codes "\"\"") ≡ []
unfolding pieces_of pieces_after chars is_utf8 encode
empty = refl

-- `"a*\*"`
pub stars : pieces_of (codes "\"a*\\*\"") ≡ Char 97 ∷ Star ∷ EscapedStar ∷ []
unfolding pieces_of pieces_after escape_of chars is_utf8 encode
stars = refl

-- `"\n\r\t\0\\\"\'"`
pub letters : string_of (codes "\"\\n\\r\\t\\0\\\\\\\"\\'\"") ≡ 10 ∷ 13 ∷ 9 ∷ 0 ∷ 92 ∷ 34 ∷ 39 ∷ []
unfolding string_of pieces_of pieces_after escape_of chars is_utf8 encode
letters = refl

-- `"\x41\u{e9}*"`, whose second character has two bytes
pub numbers : string_of (codes "\"\\x41\\u{e9}*\"") ≡ 65 ∷ 195 ∷ 169 ∷ 42 ∷ []
unfolding string_of pieces_of pieces_after escape_of ascii_of braced_of scalar_of chars is_utf8 encode
numbers = refl
