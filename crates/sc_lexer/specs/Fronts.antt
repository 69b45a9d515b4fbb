-- The token that some bytes begin with, by its length. No public promise speaks of these notions.
use Rattle.std.specs.Prelude.{ℕ, ◌+◌, ◌≤◌, Bool, List, [], ◌∷◌, length, take, drop}
use Rattle.std.specs.declared.option.Option.{Option}
use Rattle.std.specs.declared.option.Option.TheVariants.{None}
use Rattle.sc_lexer.specs.declared.token.Kind.{Kind}
use Rattle.sc_lexer.specs.declared.token.Kind.TheVariants.{Str}
use Rattle.sc_lexer.specs.declared.token.LexFault.{LexFault}
use Rattle.sc_lexer.specs.declared.token.LexFault.TheVariants.{BadToken, BadEscape}
use Rattle.sc_lexer.specs.Tokens.{two_sign, BeginsWith, BeginsNoToken}
use Rattle.sc_lexer.specs.Escapes.{IsBadEscape}
use Rattle.sc_lexer.specs.Reading.{HasEscapes}

-- the first `len` bytes are a token, the longest one that begins the bytes
pub record IsFront (bytes : List ℕ) (kind : Kind) (len : ℕ) : Type 0 where
  pub within : len ≤ length bytes
  pub begins : BeginsWith bytes (take len bytes) (drop len bytes) kind

-- the sign of two bytes that the bytes begin with
unfoldable pub long_sign : List ℕ → Option Kind
long_sign [] = None
long_sign (a ∷ []) = None
long_sign (a ∷ b ∷ cs) = two_sign a b

-- that token has no bad escape; like tells that the token before it is the word `like`
pub record IsNext (like : Bool) (bytes : List ℕ) (kind : Kind) (len : ℕ) : Type 0 where
  pub front : IsFront bytes kind len
  pub escapes : HasEscapes like kind (take len bytes)

-- why there is no such token, where the bytes stand at a place of the file
pub data Stops (like : Bool) (bytes : List ℕ) (at : ℕ) : LexFault → Type 0 where
  lacks_token : BeginsNoToken bytes → Stops like bytes at (BadToken at)
  lacks_escape : (text rest front back : List ℕ) → BeginsWith bytes text rest Str → IsBadEscape like text front back
      → Stops like bytes at (BadEscape (at + length front))
