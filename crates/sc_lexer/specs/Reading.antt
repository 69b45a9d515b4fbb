-- The tokens of a file, or the first place where it has none.
use Rattle.std.specs.Prelude.{◌≡◌, ◌≢◌, ℕ, ◌-◌, List, [], ◌∷◌, ◌++◌, length, Bool, false, codes, Result, Ok, Err, ⊤}
use Rattle.std.specs.Str.{bytes_eq, IsUtf8, IsValidUpTo}
use Rattle.sc_lists.specs.declared.fault.Fault.{Fault}
use Rattle.sc_lists.specs.declared.fault.Fault.TheVariants.{Told, NoMemory}
use Rattle.sc_lexer.specs.declared.token.Kind.{Kind}
use Rattle.sc_lexer.specs.declared.token.Kind.TheVariants.{Str}
use Rattle.sc_lexer.specs.declared.token.Token.{Token}
use Rattle.sc_lexer.specs.declared.token.LexFault.{LexFault}
use Rattle.sc_lexer.specs.declared.token.LexFault.TheVariants.{BadUtf8, BadToken, BadEscape}
use Rattle.sc_lexer.specs.Blanks.{Skips}
use Rattle.sc_lexer.specs.Tokens.{BeginsWith, BeginsNoToken}
use Rattle.sc_lexer.specs.Escapes.{IsSpelled, IsBadEscape}

-- a token of this kind and text before the last bytes of a file
abbrev pub token_of : ℕ → Kind → List ℕ → List ℕ → Token
token_of whole kind text rest = record {
  kind = kind;
  span = record { start = whole - length (text ++ rest); end = whole - length rest };
}

-- one more token in front
abbrev pub before : Token → Result (List Token) LexFault → Result (List Token) LexFault
before t (Ok ts) = Ok (t ∷ ts)
before t (Err fault) = Err fault

-- each backslash of a string begins an escape (its quotes are bytes that stand for themselves)
abbrev pub HasEscapes : Bool → Kind → List ℕ → Type 0
HasEscapes like kind text = kind ≡ Str → IsSpelled like text

-- what is read of the last bytes of a file of `whole` bytes; like tells that the token before them is the word `like`
pub data Reads (whole : ℕ) : Bool → List ℕ → Result (List Token) LexFault → Type 0 where
  ends : (like : Bool) (bytes : List ℕ) → Skips bytes [] → Reads whole like bytes (Ok [])
  no_token : (like : Bool) (bytes left : List ℕ) → Skips bytes left → left ≢ [] → BeginsNoToken left
      → Reads whole like bytes (Err (BadToken (whole - length left)))
  bad_escape : (like : Bool) (bytes left text rest front back : List ℕ) → Skips bytes left
      → BeginsWith left text rest Str
      → IsBadEscape like text front back
      → Reads whole like bytes (Err (BadEscape (whole - length (92 ∷ (back ++ rest)))))
  some_token : (like : Bool) (bytes left text rest : List ℕ) (kind : Kind) (others : Result (List Token) LexFault)
      → Skips bytes left → BeginsWith left text rest kind
      → HasEscapes like kind text → Reads whole (bytes_eq text (codes "like")) rest others
      → Reads whole like bytes (before (token_of whole kind text rest) others)

-- the tokens of a file of these bytes, or its first fault
pub data Lexes (bytes : List ℕ) : Result (List Token) LexFault → Type 0 where
  ill_formed : (at : ℕ) → (IsUtf8 bytes → ⊥) → IsValidUpTo bytes at → Lexes bytes (Err (BadUtf8 at))
  text : (read : Result (List Token) LexFault) → IsUtf8 bytes → Reads (length bytes) false bytes read → Lexes bytes read

-- the fault is the file's, or want of memory
abbrev pub LexFails : List ℕ → Fault LexFault → Type 0
LexFails bytes (Told fault) = Lexes bytes (Err fault)
LexFails bytes NoMemory = ⊤

-- the same of a text
abbrev pub ReadFails : List ℕ → Fault LexFault → Type 0
ReadFails bytes (Told fault) = Reads (length bytes) false bytes (Err fault)
ReadFails bytes NoMemory = ⊤
