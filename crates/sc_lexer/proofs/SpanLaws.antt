-- Where the tokens that are read stand.
use Rattle.std.proofs.Common.{◌≡◌, ℕ, zero, suc, ◌+◌, ◌-◌, ◌<◌, ◌≤◌, List, [], ◌∷◌, ◌++◌, length, take, drop, Bool, refl, sym, ◌∙◌, ap, subst, append_assoc, length-append, arith, Result, Ok, Err, Some}
use Rattle.std.specs.Prelude.{All, AllPairs, IfOk, ⊤}
use Rattle.std.proofs.lemmas.List.{take_at, drop_at}
use Rattle.std.specs.Char.{encode_utf8}
use Rattle.std.specs.Str.{IsUtf8, chars}
use Rattle.std.proofs.lemmas.Str.{IsUtf8-take, IsUtf8-drop}
use Rattle.sc_lists.specs.declared.fault.Fault.{Fault}
use Rattle.sc_lexer.specs.declared.token.Kind.{Kind}
use Rattle.sc_lexer.specs.declared.token.Kind.TheVariants.{Str}
use Rattle.sc_lexer.specs.declared.token.Token.{Token}
use Rattle.sc_lexer.specs.declared.token.LexFault.{LexFault}
use Rattle.sc_lexer.specs.Blanks.{Skips, none, space, comment}
use Rattle.sc_lexer.specs.Tokens.{kind_of}
use Rattle.sc_lexer.specs.Reading.{Reads, HasEscapes, ends, no_token, bad_escape, some_token, token_of, before, Lexes, ill_formed, text}
use Rattle.sc_lexer.specs.Spans.{text_of, AreTokens}
use Rattle.sc_lexer.specs.Pieces.{Spells, quoted, pieces_of}
use Rattle.sc_lexer.proofs.BlankLaws.{length-Skips, IsUtf8-Skips}
use Rattle.sc_lexer.proofs.FrontLaws.{ends_ascii, token_boundary}
use Rattle.sc_lexer.proofs.MeaningLaws.{Spells_string}

-- the last bytes of a file
record IsRest (bytes rest : List ℕ) : Type 0 where
  front : List ℕ
  parts : bytes ≡ front ++ rest

rest_more : (a b c : List ℕ) → IsRest a b → IsRest b c → IsRest a c
rest_more a b c h k = record { front = h.front ++ k.front; parts = h.parts ∙ ap (λ bs. h.front ++ bs) k.parts ∙ sym (append_assoc h.front k.front c) }

IsRest-Skips : {a b : List ℕ} → Skips a b → IsRest a b
IsRest-Skips (none x s c) = record { front = []; parts = refl }
IsRest-Skips (space c r l w k) = rest_more (encode_utf8 c ++ r) r l (record { front = encode_utf8 c; parts = refl }) (IsRest-Skips k)
IsRest-Skips (comment line r l i e k) = rest_more (47 ∷ 47 ∷ (line ++ r)) r l (record { front = 47 ∷ 47 ∷ line; parts = refl }) (IsRest-Skips k)

-- a token of a file
pub record IsToken (bytes : List ℕ) (t : Token) : Type 0 where
  pub some : t.span.start < t.span.end
  pub within : t.span.end ≤ length bytes
  pub kind : kind_of (text_of bytes t) ≡ Some t.kind
  pub string : t.kind ≡ Str → Spells (chars (quoted (text_of bytes t))) (pieces_of (text_of bytes t))

-- tokens of a file from a place on, in order
TokensFrom : List ℕ → ℕ → List Token → Type 0
TokensFrom bytes at [] = ⊤
TokensFrom bytes at (t ∷ ts) = (at ≤ t.span.start) × IsToken bytes t × TokensFrom bytes t.span.end ts

start_is : (bytes front rest : List ℕ) → bytes ≡ front ++ rest → length bytes - length rest ≡ length front
start_is bytes front rest e = let size : length bytes ≡ length front + length rest = ap length e ∙ length-append front rest in omega arith

IsToken-token_of : {like : Bool} (bytes front t rest : List ℕ) (kind : Kind) → bytes ≡ front ++ (t ++ rest) → kind_of t ≡ Some kind → IsUtf8 t → HasEscapes like kind t → IsToken bytes (token_of (length bytes) kind t rest)
IsToken-token_of bytes front t rest kind e k u has =
    let start : length bytes - length (t ++ rest) ≡ length front = start_is bytes front (t ++ rest) e in
    let all : bytes ≡ (front ++ t) ++ rest = e ∙ sym (append_assoc front t rest) in
    let end : length bytes - length rest ≡ length front + length t = start_is bytes (front ++ t) rest all ∙ length-append front t in
    let some : 0 < length t = (ends_ascii t kind k).some in
    let size : length front + length t - length front ≡ length t = omega arith in
    let is : take (length bytes - length rest - (length bytes - length (t ++ rest))) (drop (length bytes - length (t ++ rest)) bytes) ≡ t =
    rw (end, start, size) (ap (take (length t)) (ap (drop (length front)) e ∙ drop_at front (t ++ rest) (length front) refl) ∙ take_at t rest (length t) refl) in
    record {
      some = omega arith;
      within = omega arith;
      kind = ap kind_of is ∙ k;
      string = λ s. subst (λ bs. Spells (chars (quoted bs)) (pieces_of bs)) (sym is) (Spells_string t (k ∙ ap Some s) u (has s));
    }

before_ok : (t : Token) (r : Result (List Token) LexFault) (ts : List Token) → before t r ≡ Ok ts → (us : List Token) × (r ≡ Ok us) × (ts ≡ t ∷ us)
before_ok t (Ok us) ts e = (us, refl, cc)
before_ok t (Err fault) ts e = cc

from_reads : (bytes : List ℕ) {like : Bool} {b : List ℕ} {r : Result (List Token) LexFault} (ts : List Token) → Reads (length bytes) like b r → r ≡ Ok ts → IsRest bytes b → IsUtf8 b → TokensFrom bytes (length bytes - length b) ts
unfolding TokensFrom
from_reads bytes ts (ends l b s) e h u = let nothing : [] ≡ ts = cc in subst (TokensFrom bytes (length bytes - length b)) nothing tt
from_reads bytes ts (no_token l b left s some lacks) e h u = cc
from_reads bytes ts (bad_escape l b left t rest front back s begins bad) e h u = cc
from_reads bytes ts (some_token l b left t rest kind others s begins has reads) e h u =
    let token = token_of (length bytes) kind t rest in
    let more = before_ok token others ts e in
    let at_left = rest_more bytes b left h (IsRest-Skips s) in
    let at_text : bytes ≡ at_left.front ++ (t ++ rest) = at_left.parts ∙ ap (λ bs. at_left.front ++ bs) begins.parts in
    let at_rest : IsRest bytes rest = record { front = at_left.front ++ t; parts = at_text ∙ sym (append_assoc at_left.front t rest) } in
    let left_utf8 = IsUtf8-Skips s u in
    let cut = token_boundary left t rest kind begins.parts begins.is left_utf8 in
    let text_utf8 = subst IsUtf8 (ap (take (length t)) begins.parts ∙ take_at t rest (length t) refl) (IsUtf8-take left (length t) left_utf8 cut) in
    let rest_utf8 = subst IsUtf8 (ap (drop (length t)) begins.parts ∙ drop_at t rest (length t) refl) (IsUtf8-drop left (length t) left_utf8 cut) in
    let after : length bytes - length b ≤ length bytes - length (t ++ rest) = omega (arith, ap length begins.parts, length-Skips s) in
    subst (TokensFrom bytes (length bytes - length b)) (sym more.2) (after, IsToken-token_of bytes at_left.front t rest kind at_text begins.is text_utf8 has, from_reads bytes more.0 reads more.1 at_rest rest_utf8)

-- from tokens in order to each of them

each : (bytes : List ℕ) (at : ℕ) (ts : List Token) → TokensFrom bytes at ts → All (IsToken bytes) ts
unfolding TokensFrom
each bytes at [] h k d l = absurd (omega arith)
each bytes at (t ∷ ts) h zero d l = h.1
each bytes at (t ∷ ts) h (suc k) d l = each bytes t.span.end ts h.2 k d (omega arith)

starts_after : (bytes : List ℕ) (at : ℕ) (ts : List Token) → TokensFrom bytes at ts → All (λ t. at ≤ t.span.start) ts
unfolding TokensFrom
starts_after bytes at [] h k d l = absurd (omega arith)
starts_after bytes at (t ∷ ts) h zero d l = h.0
starts_after bytes at (t ∷ ts) h (suc k) d l = let later = starts_after bytes t.span.end ts h.2 k d (omega arith) in omega (arith, h.1.some)

apart_from : (bytes : List ℕ) (at : ℕ) (ts : List Token) → TokensFrom bytes at ts → AllPairs (λ t u. t.span.end ≤ u.span.start) ts
unfolding TokensFrom
apart_from bytes at [] h i j d l m = absurd (omega arith)
apart_from bytes at (t ∷ ts) h i zero d l m = absurd (omega arith)
apart_from bytes at (t ∷ ts) h zero (suc j) d l m = starts_after bytes t.span.end ts h.2 j d (omega arith)
apart_from bytes at (t ∷ ts) h (suc i) (suc j) d l m = apart_from bytes t.span.end ts h.2 i j d (omega arith) (omega arith)

from_lexes : (bytes : List ℕ) (r : Result (List Token) LexFault) (ts : List Token) → Lexes bytes r → r ≡ Ok ts → AreTokens bytes ts
from_lexes bytes r ts (ill_formed at bad v) e = cc
from_lexes bytes r ts (text read u h) e =
    let all = from_reads bytes ts h e (record { front = []; parts = refl }) u in
    let at = length bytes - length bytes in
    record {
      some = λ k d l. (each bytes at ts all k d l).some;
      within = λ k d l. (each bytes at ts all k d l).within;
      kinds = λ k d l. (each bytes at ts all k d l).kind;
      strings = λ k d l. (each bytes at ts all k d l).string;
      apart = apart_from bytes at ts all;
    }

pub AreTokens-lexed : (bytes : List ℕ) (ts : List Token) → Lexes bytes (Ok ts) → AreTokens bytes ts
AreTokens-lexed bytes ts h = from_lexes bytes (Ok ts) ts h refl

-- the clause of a call
pub AreTokens_ok : (bytes : List ℕ) (result : Result (List Token) (Fault LexFault)) → IfOk result (λ list. Lexes bytes (Ok list)) → IfOk result (AreTokens bytes)
AreTokens_ok bytes (Ok ts) h = AreTokens-lexed bytes ts h
AreTokens_ok bytes (Err fault) h = tt
