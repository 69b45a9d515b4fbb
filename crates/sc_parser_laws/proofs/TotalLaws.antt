-- Each file spells policies or has a fault.
use Rattle.std.proofs.Common.{◌≡◌, ℕ, List, [], map, slice_get, refl, Result, Ok, Err}
use Rattle.std.specs.declared.option.Option.{Option}
use Rattle.std.specs.declared.option.Option.TheVariants.{Some, None}
use Rattle.sc_ast.specs.declared.policy.Policy.{Policy}
use Rattle.sc_lexer.specs.declared.token.LexFault.{LexFault}
use Rattle.sc_lexer.specs.declared.token.LexFault.TheVariants.{BadUtf8, BadToken, BadEscape}
use Rattle.sc_lexer.specs.declared.token.Token.{Token}
use Rattle.sc_lexer.specs.Reading.{Lexes}
use Rattle.sc_lexemes.specs.declared.lexeme.Lexeme.{Lexeme}
use Rattle.sc_lexemes.specs.declared.stop.Stop.{Stop}
use Rattle.sc_lexemes.specs.Outcomes.{Outcome, read, halt}
use Rattle.sc_lexemes.specs.Shapes.{lexeme_of}
use Rattle.sc_parser.specs.declared.fault.PolicyFault.{PolicyFault}
use Rattle.sc_parser.specs.declared.fault.PolicyFault.TheVariants as fault
use Rattle.sc_parser.specs.ReadsFiles.{ReadsPolicies}
use Rattle.sc_parser.specs.Spelling.{AreLexemes, fault_of, ill_formed, no_token, no_escape, IsReading, spelled, faulty}
use Rattle.sc_parser.proofs.ReadingLaws.{lexemes_are, reads_spelled, reads_fault, reads_end}
use Rattle.sc_parser_laws.proofs.LexingLaws.{lexing}
use Rattle.sc_parser_laws.proofs.FileEndLaws.{file_reading}

-- what a file is read as, whatever it is
abbrev HasReading : List ℕ → Type 0
HasReading bytes = (told : Result (List Policy) PolicyFault) × IsReading bytes told

halted : (bytes : List ℕ) (ts : List Lexeme) (f : Stop) (n : ℕ) → AreLexemes bytes ts → ReadsPolicies ts 0 [] (halt f n) → (o : Option Lexeme) → slice_get ts n ≡ o → HasReading bytes
halted bytes ts f n are r (Some l) e = (Err (fault_of f l.place), faulty (fault_of f l.place) (reads_fault are r e))
halted bytes ts f n are r None e = (Err fault.UnexpectedEnd, faulty fault.UnexpectedEnd (reads_end are r e))

of_tokens : (bytes : List ℕ) (ts : List Lexeme) → AreLexemes bytes ts → (o : Outcome (List Policy)) → ReadsPolicies ts 0 [] o → HasReading bytes
of_tokens bytes ts are (read ps t) r = (Ok ps, spelled ps (reads_spelled are r))
of_tokens bytes ts are (halt f n) r = halted bytes ts f n are r (slice_get ts n) refl

of_bytes : (bytes : List ℕ) (r : Result (List Token) LexFault) → Lexes bytes r → HasReading bytes
of_bytes bytes (Err (BadUtf8 n)) h = (_, faulty _ (ill_formed h))
of_bytes bytes (Err (BadToken n)) h = (_, faulty _ (no_token h))
of_bytes bytes (Err (BadEscape n)) h = (_, faulty _ (no_escape h))
of_bytes bytes (Ok tokens) h =
    let ts = map (lexeme_of bytes) tokens in
    let o = file_reading ts in
    of_tokens bytes ts (lexemes_are h refl) o.0 o.1

pub has_reading : (bytes : List ℕ) → HasReading bytes
has_reading bytes = let r = lexing bytes in of_bytes bytes r.0 r.1
