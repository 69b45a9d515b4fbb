-- What is read of the rest of a file completes what was read of its front.
use Rattle.std.proofs.Common.{◌≡◌, ◌≢◌, ℕ, ◌+◌, ◌-◌, ◌<◌, ◌≤◌, List, [], ◌∷◌, ◌++◌, length, take, drop, Bool, false, refl, sym, ◌∙◌, ap, subst, append_assoc, append-nil, length-append, length-drop, arith, Result, Ok, Err}
use Rattle.std.specs.Prelude.{codes, IfOk, IfErr}
use Rattle.std.specs.Str.{bytes_eq, IsUtf8, IsCharBoundary}
use Rattle.std.proofs.lemmas.List.{take-append-drop, nil_from_length, length-take-le}
use Rattle.sc_lists.specs.declared.fault.Fault.{Fault}
use Rattle.sc_lists.specs.declared.fault.Fault.TheVariants.{Told, NoMemory}
use Rattle.sc_lexer.specs.declared.token.Kind.{Kind}
use Rattle.sc_lexer.specs.declared.token.Token.{Token}
use Rattle.sc_lexer.specs.declared.token.LexFault.{LexFault}
use Rattle.sc_lexer.specs.declared.token.LexFault.TheVariants.{BadEscape}
use Rattle.sc_lexer.specs.Blanks.{Skips}
use Rattle.sc_lexer.specs.Fronts.{IsFront, IsNext, Stops, lacks_token, lacks_escape}
use Rattle.sc_lexer.specs.Reading.{Reads, ends, no_token, bad_escape, some_token, token_of, before, Lexes, text, LexFails, ReadFails}
use Rattle.sc_lexer.proofs.BlankLaws.{length-Skips}
use Rattle.sc_lexer.proofs.FrontLaws.{ends_ascii, token_boundary}

-- some more tokens in front
pub after_all : List Token → Result (List Token) LexFault → Result (List Token) LexFault
after_all ts (Ok us) = Ok (ts ++ us)
after_all ts (Err fault) = Err fault

-- whatever is read of the bytes that are left completes the tokens of the file
pub record Completes (bytes : List ℕ) (ts : List Token) (like : Bool) (left : List ℕ) : Type 0 where
  pub within : length left ≤ length bytes
  pub completes : (r : Result (List Token) LexFault) → Reads (length bytes) like left r → Reads (length bytes) false bytes (after_all ts r)

same : (r : Result (List Token) LexFault) → after_all [] r ≡ r
unfolding after_all
same (Ok us) = refl
same (Err fault) = refl

pub Completes_start : (bytes : List ℕ) → Completes bytes [] false bytes
Completes_start bytes = record { within = omega arith; completes = λ r h. subst (Reads (length bytes) false bytes) (sym (same r)) h }

one_more : (ts : List Token) (t : Token) (r : Result (List Token) LexFault) → after_all ts (before t r) ≡ after_all (ts ++ (t ∷ [])) r
unfolding after_all
one_more ts t (Ok us) = ap Ok (sym (append_assoc ts (t ∷ []) us))
one_more ts t (Err fault) = refl

token_place : (whole : ℕ) (rest : List ℕ) (kind : Kind) (len : ℕ) → length rest ≤ whole → len ≤ length rest
    → token_of whole kind (take len rest) (drop len rest) ≡ record { kind = kind; span = record { start = whole - length rest; end = whole - length rest + len } }
token_place whole rest kind len h k =
    let start : whole - length (take len rest ++ drop len rest) ≡ whole - length rest = ap (λ bs. whole - length bs) (take-append-drop len rest) in
    let end : whole - length (drop len rest) ≡ whole - length rest + len = rw length-drop (omega arith) in
    rw (start, end) refl

pub Completes_more : (bytes left rest : List ℕ) (ts : List Token) (like : Bool) (kind : Kind) (len : ℕ) → Completes bytes ts like left → Skips left rest → IsNext like rest kind len
    → Completes bytes (ts ++ (record { kind = kind; span = record { start = length bytes - length rest; end = length bytes - length rest + len } } ∷ [])) (bytes_eq (take len rest) (codes "like")) (drop len rest)
Completes_more bytes left rest ts like kind len p s n =
    let short : length rest ≤ length bytes = omega (arith, length-Skips s, p.within) in
    let inside : len ≤ length rest = n.front.within in
    record {
      within = omega (arith, length-drop len rest);
      completes = λ r h.
          let token = token_of (length bytes) kind (take len rest) (drop len rest) in
          let more : Reads (length bytes) false bytes (after_all ts (before token r)) = p.completes (before token r) (some_token like left rest (take len rest) (drop len rest) kind r s n.front.begins n.escapes h) in
          let place : token ≡ record { kind = kind; span = record { start = length bytes - length rest; end = length bytes - length rest + len } } = token_place (length bytes) rest kind len short inside in
          subst (λ (t : Token). Reads (length bytes) false bytes (after_all (ts ++ (t ∷ [])) r)) place (subst (Reads (length bytes) false bytes) (one_more ts token r) more);
    }

pub Completes_end : (bytes left rest : List ℕ) (ts : List Token) (like : Bool) → Completes bytes ts like left → Skips left rest → length rest ≡ 0 → Reads (length bytes) false bytes (Ok ts)
unfolding after_all
Completes_end bytes left rest ts like p s e =
    let nothing : rest ≡ [] = nil_from_length rest e in
    let all : Reads (length bytes) false bytes (after_all ts (Ok [])) = p.completes (Ok []) (ends like left (subst (Skips left) nothing s)) in
    subst (λ (us : List Token). Reads (length bytes) false bytes (Ok us)) (append-nil ts) all

reads_fault : (whole : ℕ) (left rest : List ℕ) (like : Bool) (fault : LexFault) → Skips left rest → length rest ≢ 0 → length rest ≤ whole → Stops like rest (whole - length rest) fault → Reads whole like left (Err fault)
reads_fault whole left rest like fault s e short (lacks_token none) = no_token like left rest s (λ nothing. e (ap length nothing)) none
reads_fault whole left rest like fault s e short (lacks_escape word after front back begins bad) =
    let parts : rest ≡ (front ++ (92 ∷ back)) ++ after = begins.parts ∙ ap (λ bs. bs ++ after) bad.parts in
    let all : length rest ≡ length front + length (92 ∷ (back ++ after)) = ap length parts ∙ omega (arith, length-append {A = ℕ}) in
    let place : whole - length (92 ∷ (back ++ after)) ≡ whole - length rest + length front = omega arith in
    subst (λ (at : ℕ). Reads whole like left (Err (BadEscape at))) place (bad_escape like left rest word after front back s begins bad)

pub Completes_fault : (bytes left rest : List ℕ) (ts : List Token) (like : Bool) (fault : LexFault) → Completes bytes ts like left → Skips left rest → length rest ≢ 0 → Stops like rest (length bytes - length rest) fault
    → Reads (length bytes) false bytes (Err fault)
unfolding after_all
Completes_fault bytes left rest ts like fault p s e stops = p.completes (Err fault) (reads_fault (length bytes) left rest like fault s e (omega (arith, length-Skips s, p.within)) stops)

pub front_boundary : (bytes : List ℕ) (kind : Kind) (len : ℕ) → IsFront bytes kind len → IsUtf8 bytes → IsCharBoundary bytes len
front_boundary bytes kind len f u =
    subst (IsCharBoundary bytes) (length-take-le len bytes f.within) (token_boundary bytes (take len bytes) (drop len bytes) kind f.begins.parts f.begins.is u)

-- what is read of a text is read of the file
pub Lexes_ok : (bytes t : List ℕ) (r : Result (List Token) (Fault LexFault)) → t ≡ bytes → IsUtf8 bytes → IfOk r (λ list. Reads (length t) false t (Ok list)) → IfOk r (λ list. Lexes bytes (Ok list))
Lexes_ok bytes t (Ok list) e u h = text (Ok list) u (subst (λ bs. Reads (length bs) false bs (Ok list)) e h)
Lexes_ok bytes t (Err fault) e u h = tt

pub Lexes_err : (bytes t : List ℕ) (r : Result (List Token) (Fault LexFault)) → t ≡ bytes → IsUtf8 bytes → IfErr r (ReadFails t) → IfErr r (LexFails bytes)
Lexes_err bytes t (Ok list) e u h = tt
Lexes_err bytes t (Err (Told fault)) e u h = text (Err fault) u (subst (λ bs. Reads (length bs) false bs (Err fault)) e h)
Lexes_err bytes t (Err NoMemory) e u h = tt

pub shorter : (left rest : List ℕ) (like : Bool) (kind : Kind) (len : ℕ) → length rest ≤ length left → IsNext like rest kind len → length (drop len rest) < length left
shorter left rest like kind len h n =
    let some : 0 < length (take len rest) = (ends_ascii (take len rest) kind n.front.begins.is).some in
    let size : length (take len rest) ≡ len = length-take-le len rest n.front.within in
    omega (arith, length-drop len rest, n.front.within)
