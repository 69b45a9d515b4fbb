-- What a token is.
use Rattle.std.specs.Prelude.{◌≡◌, ℕ, ◌≤◌, ◌==◌, ◌&&◌, if◌then◌else◌, List, [], ◌∷◌, ◌++◌, length, Bool, false}
use Rattle.std.specs.Char.{is_ascii_digit}
use Rattle.std.specs.List.{list_all}
use Rattle.std.specs.declared.option.Option.{Option}
use Rattle.std.specs.declared.option.Option.TheVariants.{Some, None}
use Rattle.sc_names.specs.Names.{is_word}
use Rattle.sc_lexer.specs.declared.token.Kind.{Kind}
use Rattle.sc_lexer.specs.declared.token.Kind.TheVariants.{Word, Number, Str, DoubleColon, And, Or, Equal, NotEqual, LessOrEqual, GreaterOrEqual, Less, Greater, Plus, Minus, Star, Not, Dot, Comma, Semicolon, Colon, OpenParenthesis, CloseParenthesis, OpenBracket, CloseBracket, OpenBrace, CloseBrace, At, Question}

-- decimal digits, at least one
abbrev pub is_number : List ℕ → Bool
is_number [] = false
is_number (c ∷ cs) = list_all is_ascii_digit (c ∷ cs)

-- the last byte is the first quote, where each backslash takes the byte after it along. Of a longer character that is
-- the first byte; its others are neither quotes nor backslashes
unfoldable pub closes : List ℕ → Bool
closes [] = false
closes (c ∷ []) = c == 34
closes (c ∷ d ∷ cs) = if c == 92 then closes cs else (if c == 34 then false else closes (d ∷ cs))

-- a quote, and bytes up to the quote that closes
abbrev pub is_string : List ℕ → Bool
is_string [] = false
is_string (c ∷ cs) = (c == 34) && closes cs

-- the signs of one byte: `<`, `>`, `+`, `-`, `*`, `!`, `.`, `,`, `;`, `:`, `(`, `)`, `[`, `]`, `{`, `}`, `@` and `?`
unfoldable pub one_sign : ℕ → Option Kind
one_sign a =
    if a == 60 then Some Less
    else (if a == 62 then Some Greater
    else (if a == 43 then Some Plus
    else (if a == 45 then Some Minus
    else (if a == 42 then Some Star
    else (if a == 33 then Some Not
    else (if a == 46 then Some Dot
    else (if a == 44 then Some Comma
    else (if a == 59 then Some Semicolon
    else (if a == 58 then Some Colon
    else (if a == 40 then Some OpenParenthesis
    else (if a == 41 then Some CloseParenthesis
    else (if a == 91 then Some OpenBracket
    else (if a == 93 then Some CloseBracket
    else (if a == 123 then Some OpenBrace
    else (if a == 125 then Some CloseBrace
    else (if a == 64 then Some At
    else (if a == 63 then Some Question
    else None)))))))))))))))))

-- the signs of two bytes: `::`, `&&`, `||`, `==`, `!=`, `<=` and `>=`
unfoldable pub two_sign : ℕ → ℕ → Option Kind
two_sign a b =
    if (a == 58) && (b == 58) then Some DoubleColon
    else (if (a == 38) && (b == 38) then Some And
    else (if (a == 124) && (b == 124) then Some Or
    else (if (a == 61) && (b == 61) then Some Equal
    else (if (a == 33) && (b == 61) then Some NotEqual
    else (if (a == 60) && (b == 61) then Some LessOrEqual
    else (if (a == 62) && (b == 61) then Some GreaterOrEqual
    else None))))))

-- the kind of a sign, if the text is one
abbrev pub sign_of : List ℕ → Option Kind
sign_of [] = None
sign_of (a ∷ []) = one_sign a
sign_of (a ∷ b ∷ []) = two_sign a b
sign_of (a ∷ b ∷ c ∷ cs) = None

-- the kind of a token, if the text is one
unfoldable pub kind_of : List ℕ → Option Kind
kind_of t =
    if is_word t then Some Word
    else (if is_number t then Some Number
    else (if is_string t then Some Str
    else sign_of t))

-- a token begins the bytes, and is the longest that does: no longer one does
pub record BeginsWith (bytes text rest : List ℕ) (kind : Kind) : Type 0 where
  pub parts : bytes ≡ text ++ rest
  pub is : kind_of text ≡ Some kind
  pub longest : (longer others : List ℕ) (other : Kind) → bytes ≡ longer ++ others → kind_of longer ≡ Some other
      → length longer ≤ length text

-- no token begins the bytes
abbrev pub BeginsNoToken : List ℕ → Type 0
BeginsNoToken bytes = (text rest : List ℕ) → bytes ≡ text ++ rest → kind_of text ≡ None
