-- A file is read in one way, and what comes of reading its tokens says how.
use Rattle.std.proofs.Common.{◌≡◌, ℕ, List, [], map, slice_get, None, refl, sym, ap, ◌∙◌, arith, subst, Result, Ok, Err}
use Rattle.std.specs.Prelude.{IfOk, IfErr}
use Rattle.std.specs.declared.option.Option.{Option}
use Rattle.std.specs.declared.option.Option.TheVariants.{Some}
use Rattle.sc_lists.specs.declared.fault.Fault.{Fault}
use Rattle.sc_lists.specs.declared.fault.Fault.TheVariants.{Told, NoMemory}
use Rattle.sc_lists.specs.Told.{Gives}
use Rattle.sc_ast.specs.declared.policy.Policy.{Policy}
use Rattle.sc_lexer.specs.declared.token.LexFault.{LexFault}
use Rattle.sc_lexer.specs.declared.token.LexFault.TheVariants.{BadUtf8, BadToken, BadEscape}
use Rattle.sc_lexer.specs.declared.token.Token.{Token}
use Rattle.sc_lexer.specs.Reading.{Lexes}
use Rattle.sc_lexer.proofs.UniqueLaws.{Lexes_same}
use Rattle.sc_lexemes.specs.declared.cursor.Cursor.{Cursor}
use Rattle.sc_parser.specs.declared.fault.PolicyFault.{PolicyFault}
use Rattle.sc_parser.specs.declared.fault.PolicyFault.TheVariants as fault
use Rattle.sc_lexemes.specs.declared.lexeme.Lexeme.{Lexeme}
use Rattle.sc_lexemes.specs.declared.stop.Stop.{Stop}
use Rattle.sc_lexemes.specs.declared.stop.Stop.TheVariants as stop
use Rattle.sc_lexemes.specs.Outcomes.{Outcome, read, halt}
use Rattle.sc_parser.specs.ReadsFiles.{ReadsPolicies}
use Rattle.sc_lexemes.specs.Shapes.{lexeme_of}
use Rattle.sc_parser.specs.Spelling.{AreLexemes, Spells, fault_of, HasFault, ill_formed, no_token, no_escape, unexpected, unexpected_end, passed, IsReading, spelled, faulty, ReadFails}
use Rattle.sc_parser.proofs.FaultLaws.{Ends, all_read, at_token, at_end, at_limit, one_end, ends}
use Rattle.sc_parser.proofs.FileLaws.{past_end}
use Rattle.sc_parser.proofs.ViableFileLaws.{found, no_token as past_token}

ok_value : {A E : Type 0} {x y : A} → ◌≡◌ {A = Result A E} (Ok x) (Ok y) → x ≡ y
ok_value e = cc

err_value : {A E : Type 0} {x y : E} → ◌≡◌ {A = Result A E} (Err x) (Err y) → x ≡ y
err_value e = cc

-- the tokens of a file are one list
pub one_lexemes : {bytes : List ℕ} {ts us : List Lexeme} → AreLexemes bytes ts → AreLexemes bytes us → ts ≡ us
one_lexemes {bytes = bytes} a b = a.are ∙ ap (map (lexeme_of bytes)) (ok_value (Lexes_same bytes _ _ a.lexed b.lexed)) ∙ sym b.are

-- the fault of bytes that are no tokens
abbrev lexical : LexFault → PolicyFault
lexical (BadUtf8 n) = fault.BadUtf8 (record { offset = n })
lexical (BadToken n) = fault.BadToken (record { offset = n })
lexical (BadEscape n) = fault.BadEscape (record { offset = n })

-- the fault at a token, or where there is none
abbrev fault_at : Stop → Option Lexeme → PolicyFault
fault_at f (Some l) = fault_of f l.place
fault_at f None = fault.UnexpectedEnd

abbrev answer : List Lexeme → Outcome (List Policy) → Result (List Policy) PolicyFault
answer ts (read ps t) = Ok ps
answer ts (halt f n) = Err (fault_at f (slice_get ts n))

-- a reading by the bytes alone, or by what the tokens are
data Known (bytes : List ℕ) : Result (List Policy) PolicyFault → Type 0 where
  by_bytes : {e : LexFault} → Lexes bytes (Err e) → Known bytes (Err (lexical e))
  by_tokens : {ts : List Lexeme} {o : Outcome (List Policy)} {r : Result (List Policy) PolicyFault} → AreLexemes bytes ts → Ends ts o → answer ts o ≡ r → Known bytes r

known_fault : {bytes : List ℕ} {f : PolicyFault} → HasFault bytes f → Known bytes (Err f)
known_fault (ill_formed h) = by_bytes h
known_fault (no_token h) = by_bytes h
known_fault (no_escape h) = by_bytes h
known_fault (unexpected a g u) = by_tokens a (at_token u) (ap (λ z. Err (fault_at stop.Unexpected z)) g)
known_fault (unexpected_end {ts = ts} a u) = by_tokens a (at_end u) (ap (λ z. Err (fault_at stop.Unexpected z)) (past_end ts))
known_fault (passed {f = f} a g q) = by_tokens a (at_limit q) (ap (λ z. Err (fault_at f z)) g)

known : {bytes : List ℕ} {r : Result (List Policy) PolicyFault} → IsReading bytes r → Known bytes r
known (spelled ps h) = by_tokens h.are (all_read h.file) refl
known (faulty f h) = known_fault h

no_bytes : {bytes : List ℕ} {e : LexFault} {ts : List Lexeme} → Lexes bytes (Err e) → AreLexemes bytes ts → ⊥
no_bytes {bytes = bytes} h a = let e = Lexes_same bytes _ _ h a.lexed in cc

one_answer : {bytes : List ℕ} {ts us : List Lexeme} {o o' : Outcome (List Policy)} → AreLexemes bytes ts → Ends ts o → AreLexemes bytes us → Ends us o' → answer ts o ≡ answer us o'
one_answer {ts = ts} {o = o} {o' = o'} a h b k =
    let e = one_lexemes a b in
    ap (answer ts) (one_end h (subst (λ vs. Ends vs o') (sym e) k)) ∙ ap (λ vs. answer vs o') e

one_known : {bytes : List ℕ} {a b : Result (List Policy) PolicyFault} → Known bytes a → Known bytes b → a ≡ b
one_known {bytes = bytes} (by_bytes h) (by_bytes k) = ap (λ e. Err (lexical e)) (err_value (Lexes_same bytes _ _ h k))
one_known (by_bytes h) (by_tokens a k e) = absurd (no_bytes h a)
one_known (by_tokens a h e) (by_bytes k) = absurd (no_bytes k a)
one_known (by_tokens a h e) (by_tokens b k g) = sym e ∙ one_answer a h b k ∙ g

pub one_reading : (bytes : List ℕ) (a b : Result (List Policy) PolicyFault) → IsReading bytes a → IsReading bytes b → a ≡ b
one_reading bytes a b p q = one_known (known p) (known q)

-- a file that spells policies has no fault
pub no_fault : (bytes : List ℕ) (ps : List Policy) (f : PolicyFault) → Spells bytes ps → HasFault bytes f → ⊥
no_fault bytes ps f h k = let e = one_reading bytes (Ok ps) (Err f) (spelled ps h) (faulty f k) in cc

-- the answer is the one reading
pub gives_reading : (bytes : List ℕ) (result : Result (List Policy) (Fault PolicyFault)) → IfOk result (Spells bytes) → IfErr result (ReadFails bytes) → (told : Result (List Policy) PolicyFault) → IsReading bytes told → Gives result told
gives_reading bytes (Ok ps) ok err told h = one_reading bytes told (Ok ps) h (spelled ps ok)
gives_reading bytes (Err (Told f)) ok err told h = one_reading bytes told (Err f) h (faulty f err)
gives_reading bytes (Err NoMemory) ok err told h = tt

-- ---- from what comes of reading the tokens of a file to what the file spells, or its fault

pub lexemes_are : {bytes : List ℕ} {ts : List Lexeme} {tokens : List Token} → Lexes bytes (Ok tokens) → ts ≡ map (lexeme_of bytes) tokens → AreLexemes bytes ts
lexemes_are {tokens = tokens} h e = record { tokens = tokens; lexed = h; are = e }

pub reads_spelled : {bytes : List ℕ} {ts : List Lexeme} {ps : List Policy} {t : Cursor} → AreLexemes bytes ts → ReadsPolicies ts 0 [] (read ps t) → Spells bytes ps
reads_spelled {ts = ts} a p = record { lexemes = ts; are = a; file = (found p).1 }

-- at a token, by its kind
fault_there : {bytes : List ℕ} {ts : List Lexeme} {f : Stop} {n : ℕ} {l : Lexeme} → AreLexemes bytes ts → Ends ts (halt f n) → slice_get ts n ≡ Some l → HasFault bytes (fault_of f l.place)
fault_there a (at_token u) g = unexpected a g u
fault_there {ts = ts} a (at_end u) g = absurd (let e = past_end ts in cc)
fault_there a (at_limit q) g = passed a g q

-- where there is none
end_there : {bytes : List ℕ} {ts : List Lexeme} {f : Stop} {n : ℕ} → AreLexemes bytes ts → Ends ts (halt f n) → slice_get ts n ≡ None → HasFault bytes fault.UnexpectedEnd
end_there {ts = ts} {n = n} a (at_token u) g = absurd (let w = u.within in let k = past_token ts n g in omega (arith, w, k))
end_there a (at_end u) g = unexpected_end a u
end_there {ts = ts} {n = n} a (at_limit q) g = absurd (let w = q.within in let k = past_token ts n g in omega (arith, w, k))

pub reads_fault : {bytes : List ℕ} {ts : List Lexeme} {f : Stop} {n : ℕ} {l : Lexeme} → AreLexemes bytes ts → ReadsPolicies ts 0 [] (halt f n) → slice_get ts n ≡ Some l → HasFault bytes (fault_of f l.place)
reads_fault a p g = fault_there a (ends p) g

pub reads_end : {bytes : List ℕ} {ts : List Lexeme} {f : Stop} {n : ℕ} → AreLexemes bytes ts → ReadsPolicies ts 0 [] (halt f n) → slice_get ts n ≡ None → HasFault bytes fault.UnexpectedEnd
reads_end a p g = end_there a (ends p) g
