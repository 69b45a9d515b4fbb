-- What a token of a file says.
use Rattle.std.specs.Prelude.{ℕ, List, map}
use Rattle.sc_pattern.specs.declared.part.Part.{Part}
use Rattle.sc_pattern.specs.declared.part.Part.TheVariants as part
use Rattle.sc_lexer.specs.declared.piece.Piece.{Piece}
use Rattle.sc_lexer.specs.declared.piece.Piece.TheVariants as piece
use Rattle.sc_lexer.specs.declared.token.Kind.{Kind}
use Rattle.sc_lexer.specs.declared.token.Kind.TheVariants as kind
use Rattle.sc_lexer.specs.declared.token.Token.{Token}
use Rattle.sc_lexer.specs.Pieces.{pieces_of, string_of}
use Rattle.sc_lexer.specs.Spans.{text_of}
use Rattle.sc_lexemes.specs.declared.lexeme.Lexeme.{Lexeme}
use Rattle.sc_lexemes.specs.declared.lexeme.Shape.{Shape}
use Rattle.sc_lexemes.specs.declared.lexeme.Shape.TheVariants as shape

-- what a piece of a string is in a pattern: an escaped star is just a star
abbrev pub part_of : Piece → Part
part_of (piece.Char c) = part.Char c
part_of piece.Star = part.Star
part_of piece.EscapedStar = part.Char 42

-- what a token of this kind and text says: a word, digits, a string with its pattern, or a sign
abbrev pub shape_of : Kind → List ℕ → Shape
shape_of kind.Word text = shape.Word text
shape_of kind.Number text = shape.Number text
shape_of kind.Str text = shape.String (string_of text) (map part_of (pieces_of text))
shape_of k text = shape.Sign k

-- a token of a file with these bytes, at its first byte
abbrev pub lexeme_of : List ℕ → Token → Lexeme
lexeme_of bytes t = record { place = record { offset = t.span.start }; shape = shape_of t.kind (text_of bytes t) }
