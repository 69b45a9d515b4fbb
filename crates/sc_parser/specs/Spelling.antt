-- What a policy file spells, or its first fault.
use Rattle.std.specs.Prelude.{◌≡◌, ℕ, List, map, slice_get, Result, Ok, Err, ⊤}
use Rattle.std.specs.declared.option.Option.TheVariants.{Some}
use Rattle.sc_lists.specs.declared.fault.Fault.{Fault}
use Rattle.sc_lists.specs.declared.fault.Fault.TheVariants.{Told, NoMemory}
use Rattle.sc_ast.specs.declared.place.Place.{Place}
use Rattle.sc_ast.specs.declared.policy.Policy.{Policy}
use Rattle.sc_lexer.specs.declared.token.Token.{Token}
use Rattle.sc_lexer.specs.declared.token.LexFault.TheVariants.{BadUtf8, BadToken, BadEscape}
use Rattle.sc_lexer.specs.Reading.{Lexes}
use Rattle.sc_parser.specs.declared.fault.PolicyFault.{PolicyFault}
use Rattle.sc_parser.specs.declared.fault.PolicyFault.TheVariants as fault
use Rattle.sc_lexemes.specs.declared.lexeme.Lexeme.{Lexeme}
use Rattle.sc_lexemes.specs.declared.stop.Stop.{Stop}
use Rattle.sc_lexemes.specs.declared.stop.Stop.TheVariants as stop
use Rattle.sc_lexemes.specs.Shapes.{lexeme_of}
use Rattle.sc_parser.specs.Faults.{Passes, IsUnexpected, IsUnexpectedEnd}
use Rattle.sc_parser.specs.GrammarFiles.{File}
use Rattle.sc_parser.specs.Limits.{all_limits}

-- these are the tokens of the file
pub record AreLexemes (bytes : List ℕ) (ts : List Lexeme) : Type 0 where
  pub tokens : List Token
  pub lexed : Lexes bytes (Ok tokens)
  pub are : ts ≡ map (lexeme_of bytes) tokens

-- the file spells these policies, within all limits
pub record Spells (bytes : List ℕ) (ps : List Policy) : Type 0 where
  pub lexemes : List Lexeme
  pub are : AreLexemes bytes lexemes
  pub file : File all_limits lexemes ps

-- the fault of a limit that a token passes, or of a token that is unexpected
abbrev pub fault_of : Stop → Place → PolicyFault
fault_of stop.TooManyPolicies p = fault.TooManyPolicies
fault_of stop.Template p = fault.Template p
fault_of stop.TooDeep p = fault.TooDeep p
fault_of stop.IntRange p = fault.IntRange p
fault_of stop.DuplicateKey p = fault.DuplicateKey p
fault_of stop.BadCall p = fault.BadCall p
fault_of _ p = fault.Unexpected p

-- the first fault of a file: one of its bytes where it has no tokens, else of its tokens
pub data HasFault (bytes : List ℕ) : PolicyFault → Type 0 where
  ill_formed : {n : ℕ} → Lexes bytes (Err (BadUtf8 n)) → HasFault bytes (fault.BadUtf8 (record { offset = n }))
  no_token : {n : ℕ} → Lexes bytes (Err (BadToken n)) → HasFault bytes (fault.BadToken (record { offset = n }))
  no_escape : {n : ℕ} → Lexes bytes (Err (BadEscape n)) → HasFault bytes (fault.BadEscape (record { offset = n }))
  unexpected : {ts : List Lexeme} {n : ℕ} {l : Lexeme} → AreLexemes bytes ts → slice_get ts n ≡ Some l
      → IsUnexpected ts n → HasFault bytes (fault.Unexpected l.place)
  unexpected_end : {ts : List Lexeme} → AreLexemes bytes ts → IsUnexpectedEnd ts → HasFault bytes fault.UnexpectedEnd
  passed : {ts : List Lexeme} {f : Stop} {n : ℕ} {l : Lexeme} → AreLexemes bytes ts → slice_get ts n ≡ Some l
      → Passes ts f n → HasFault bytes (fault_of f l.place)

-- what a file is read as: the policies that it spells, or its first fault
pub data IsReading (bytes : List ℕ) : Result (List Policy) PolicyFault → Type 0 where
  spelled : (ps : List Policy) → Spells bytes ps → IsReading bytes (Ok ps)
  faulty : (f : PolicyFault) → HasFault bytes f → IsReading bytes (Err f)

-- why a file isn't read
abbrev pub ReadFails : List ℕ → Fault PolicyFault → Type 0
ReadFails bytes (Told f) = HasFault bytes f
ReadFails bytes NoMemory = ⊤
