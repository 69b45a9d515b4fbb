-- A text as tokens, each with what stands behind it.
use Rattle.std.specs.Prelude.{ℕ, ◌-◌, List, [], ◌∷◌, ◌++◌, length, Bool}
use Rattle.std.specs.Str.{IsAscii}
use Rattle.sc_lexer.specs.Blanks.{BeginsNoSpace, BeginsNoComment}
use Rattle.sc_lexer.specs.Reading.{HasEscapes, token_of}
use Rattle.sc_lexer.specs.Tokens.{BeginsWith}
use Rattle.sc_lexer.specs.declared.token.Kind.{Kind}
use Rattle.sc_lexer.specs.declared.token.Token.{Token}
use Rattle.sc_lexemes.specs.Shapes.{shape_of}
use Rattle.sc_lexemes.specs.declared.lexeme.Lexeme.{Lexeme}

-- nothing, a space or the end of a line
pub data Gap : Type 0 where
  nothing : Gap
  space : Gap
  line : Gap

abbrev pub gap_text : Gap → List ℕ
gap_text nothing = []
gap_text space = 32 ∷ []
gap_text line = 10 ∷ []

-- a token and what stands behind it
pub record Item : Type 0 where
  pub kind : Kind
  pub text : List ℕ
  pub gap : Gap

abbrev pub spelled : List Item → List ℕ
spelled [] = []
spelled (i ∷ is) = i.text ++ (gap_text i.gap ++ spelled is)

-- its tokens, where it is the end of a text of this length
abbrev pub tokens_of : ℕ → List Item → List Token
tokens_of whole [] = []
tokens_of whole (i ∷ is) = token_of whole i.kind i.text (gap_text i.gap ++ spelled is) ∷ tokens_of whole is

-- and what they say
abbrev pub lexemes_of : ℕ → List Item → List Lexeme
lexemes_of whole [] = []
lexemes_of whole (i ∷ is) = record {
  place = record { offset = whole - length (i.text ++ (gap_text i.gap ++ spelled is)) };
  shape = shape_of i.kind i.text;
} ∷ lexemes_of whole is

-- the text is read as this token where these bytes follow
pub record IsItem (kind : Kind) (text rest : List ℕ) : Type 0 where
  pub begins : BeginsWith (text ++ rest) text rest kind
  pub space : BeginsNoSpace (text ++ rest)
  pub comment : BeginsNoComment (text ++ rest)
  pub escapes : (like : Bool) → HasEscapes like kind text
  pub ascii : IsAscii text

-- each is
pub data AreItems : List Item → Type 0 where
  no_items : AreItems []
  more_items : {i : Item} {is : List Item} → IsItem i.kind i.text (gap_text i.gap ++ spelled is) → AreItems is
      → AreItems (i ∷ is)
