-- What the characters of a string stand for.
use Rattle.std.proofs.Common.{◌≡◌, ◌≢◌, ℕ, zero, suc, ◌+◌, ◌<◌, ◌≤◌, List, [], ◌∷◌, ◌++◌, length, take, drop, get_or, Bool, true, false, refl, sym, ◌∙◌, ap, arith, Some, None, Result, Ok, Err, map, append-nil}
use Rattle.std.specs.Prelude.{IfOk}
use Rattle.std.specs.Char.{is_ascii_hexdigit, encode_utf8}
use Rattle.std.specs.Str.{IsUtf8, is_utf8, IsAscii, IsCharBoundary, chars, encode_utf8_all}
use Rattle.std.specs.List.{list_all}
use Rattle.std.specs.declared.option.Option.{Option}
use Rattle.std.specs.declared.alloc.AllocError.{AllocError}
use Rattle.std.proofs.lemmas.Bool.Decides.{nat_tests}
use Rattle.std.proofs.lemmas.List.{take-append-drop, drop_at, length-take-le, map_more}
use Rattle.std.proofs.lemmas.Str.{encodes-append, encodes-chars, encodes-IsAscii, chars-append, chars-IsAscii, IsUtf8-from_ascii, IsAscii-append, IsCharBoundary-from_take, is_utf8-from_IsUtf8, IsUtf8-from_is_utf8}
use Rattle.sc_laws.proofs.BoolLaws.{and_second, and_first}
use Rattle.sc_lexer.specs.declared.piece.Piece.{Piece}
use Rattle.sc_lexer.specs.declared.piece.Piece.TheVariants.{Char, Star, EscapedStar}
use Rattle.sc_lexer.specs.declared.piece.Escape.{Escape}
use Rattle.sc_lexer.specs.Escapes.{is_letter, IsEscape, letter, star, ascii, code, escape_of}
use Rattle.sc_lexer.specs.Parts.{allows}
use Rattle.sc_lexer.specs.Pieces.{quoted, pieces_after, pieces_of, piece_char}
use Rattle.sc_lexer.proofs.SpellingLaws.{IsMeant-escape, Begins-escape}

-- escapes are ASCII

IsAscii-nil : IsAscii []
IsAscii-nil i = omega arith

IsAscii-cons : (c : ℕ) (cs : List ℕ) → c < 128 → IsAscii cs → IsAscii (c ∷ cs)
IsAscii-cons c cs h k zero = h
IsAscii-cons c cs h k (suc i) = k i

letter_small : (c : ℕ) → is_letter c ≡ true → c < 128
letter_small c h = grind (arith, nat_tests)

digit_small : (c : ℕ) → is_ascii_hexdigit c ≡ true → c < 128
digit_small c h = grind (arith, nat_tests)

IsAscii-digits : (ds : List ℕ) → list_all is_ascii_hexdigit ds ≡ true → IsAscii ds
IsAscii-digits [] h = IsAscii-nil
IsAscii-digits (d ∷ ds) h = IsAscii-cons d ds (digit_small d (and_first (is_ascii_hexdigit d) (list_all is_ascii_hexdigit ds) h)) (IsAscii-digits ds (and_second (is_ascii_hexdigit d) (list_all is_ascii_hexdigit ds) h))

pub IsAscii-escape : {like : Bool} (e : List ℕ) → IsEscape like e → IsAscii e
IsAscii-escape e (letter c h) = IsAscii-cons c [] (letter_small c h) IsAscii-nil
IsAscii-escape e (star h) = IsAscii-cons 42 [] (omega arith) IsAscii-nil
IsAscii-escape e (ascii ds h l v) = IsAscii-cons 120 ds (omega arith) (IsAscii-digits ds h)
IsAscii-escape e (code ds h l m v) =
    IsAscii-cons 117 (123 ∷ (ds ++ (125 ∷ []))) (omega arith) (IsAscii-cons 123 (ds ++ (125 ∷ [])) (omega arith) (IsAscii-append ds (125 ∷ []) (IsAscii-digits ds h) (IsAscii-cons 125 [] (omega arith) IsAscii-nil)))

-- what follows an escape doesn't change it

escape_rest : {like : Bool} (e r s : List ℕ) → IsEscape like e → escape_of (e ++ r) ≡ escape_of (e ++ s)
escape_rest e r s h = let meant = IsMeant-escape e h in meant.read r ∙ sym (meant.read s)

allows-pattern : (p : Piece) → allows true p ≡ true
allows-pattern (Char c) = refl
allows-pattern Star = refl
allows-pattern EscapedStar = refl

-- an escape's bytes are its characters

pub record IsCut (bs : List ℕ) (n : ℕ) : Type 0 where
  pub within : n ≤ length bs
  pub ascii : IsAscii (take n bs)
  pub escape : IsEscape true (take n bs)

pub IsCut-escape : (bs : List ℕ) (e : Escape) → escape_of bs ≡ Some e → IsCut bs e.len
IsCut-escape bs e h =
    let begins = Begins-escape true bs e h (allows-pattern e.piece) in
    record { within = begins.within; ascii = IsAscii-escape (take e.len bs) begins.is; escape = begins.is }

pub chars-cut : (bs : List ℕ) (n : ℕ) → IsCut bs n → chars bs ≡ take n bs ++ chars (drop n bs)
chars-cut bs n h =
    sym (ap chars (take-append-drop n bs)) ∙ chars-append (take n bs) (drop n bs) (IsUtf8-from_ascii (take n bs) h.ascii) ∙ ap (λ cs. cs ++ chars (drop n bs)) (chars-IsAscii (take n bs) h.ascii)

encodes-cut : (cs : List ℕ) (n : ℕ) → IsCut cs n → encode_utf8_all cs ≡ take n cs ++ encode_utf8_all (drop n cs)
encodes-cut cs n h =
    sym (ap encode_utf8_all (take-append-drop n cs)) ∙ encodes-append (take n cs) (drop n cs) ∙ ap (λ bs. bs ++ encode_utf8_all (drop n cs)) (encodes-IsAscii (take n cs) h.ascii)

some_chars : (bs : List ℕ) (e : Escape) → escape_of bs ≡ Some e → escape_of (chars bs) ≡ Some e
some_chars bs e h =
    let cut = IsCut-escape bs e h in
    ap escape_of (chars-cut bs e.len cut) ∙ escape_rest (take e.len bs) (chars (drop e.len bs)) (drop e.len bs) cut.escape ∙ ap escape_of (take-append-drop e.len bs) ∙ h

some_bytes : (bs : List ℕ) (e : Escape) → IsUtf8 bs → escape_of (chars bs) ≡ Some e → escape_of bs ≡ Some e
some_bytes bs e u h =
    let cut = IsCut-escape (chars bs) e h in
    let parts : bs ≡ take e.len (chars bs) ++ encode_utf8_all (drop e.len (chars bs)) = sym (encodes-chars bs u) ∙ encodes-cut (chars bs) e.len cut in
    ap escape_of parts ∙ escape_rest (take e.len (chars bs)) (encode_utf8_all (drop e.len (chars bs))) (drop e.len (chars bs)) cut.escape ∙ ap escape_of (take-append-drop e.len (chars bs)) ∙ h

none_chars : (bs : List ℕ) (o : Option Escape) → IsUtf8 bs → escape_of bs ≡ None → escape_of (chars bs) ≡ o → o ≡ None
none_chars bs None u h k = refl
none_chars bs (Some e) u h k = let both : None ≡ Some e = sym h ∙ some_bytes bs e u k in cc

-- the clauses of the calls

pub escape_boundary : (bs : List ℕ) (e : Escape) → Some e ≡ escape_of bs → IsUtf8 bs → IsCharBoundary bs e.len
escape_boundary bs e h u = let cut = IsCut-escape bs e (sym h) in IsCharBoundary-from_take bs e.len u cut.within (IsUtf8-from_ascii (take e.len bs) cut.ascii)

pub pieces-skip : (n : ℕ) (cs : List ℕ) → pieces_after n cs ≡ pieces_after 0 (drop n cs)
unfolding pieces_after
pieces-skip zero cs = refl
pieces-skip (suc n) [] = refl
pieces-skip (suc n) (c ∷ cs) = pieces-skip n cs

pub pieces_escape : (bs : List ℕ) (e : Escape) → Some e ≡ escape_of bs → IsUtf8 bs → pieces_after 0 (92 ∷ chars bs) ≡ e.piece ∷ pieces_after 0 (chars (drop e.len bs))
unfolding pieces_after
pieces_escape bs e h u =
    let read = some_chars bs e (sym h) in
    let cut = IsCut-escape bs e (sym h) in
    let after : drop e.len (chars bs) ≡ chars (drop e.len bs) = ap (drop e.len) (chars-cut bs e.len cut) ∙ drop_at (take e.len bs) (chars (drop e.len bs)) e.len (length-take-le e.len bs cut.within) in
    rw read (ap (λ ps. e.piece ∷ ps) (pieces-skip e.len (chars bs) ∙ ap (pieces_after 0) after))

pub pieces_backslash : (bs : List ℕ) → None ≡ escape_of bs → IsUtf8 bs → pieces_after 0 (92 ∷ chars bs) ≡ Char 92 ∷ pieces_after 0 (chars bs)
unfolding pieces_after
pieces_backslash bs h u = rw (none_chars bs (escape_of (chars bs)) u (sym h) refl) refl

pub pieces_star : (cs rest : List ℕ) → cs ≡ 42 ∷ rest → pieces_after 0 cs ≡ Star ∷ pieces_after 0 rest
unfolding pieces_after
pieces_star cs rest e = rw e refl

pub pieces_plain : (cs rest : List ℕ) (c : ℕ) → cs ≡ c ∷ rest → c ≢ 92 → c ≢ 42 → pieces_after 0 cs ≡ Char c ∷ pieces_after 0 rest
unfolding pieces_after
pieces_plain cs rest c e h k = rw e (grind (arith, nat_tests))

pub pieces_none : (cs : List ℕ) → cs ≡ [] → pieces_after 0 cs ≡ []
unfolding pieces_after
pieces_none cs e = rw e refl

pub pieces_ok : (bytes t : List ℕ) (r : Result (List Piece) AllocError) → t ≡ quoted bytes → IsUtf8 (quoted bytes) → IfOk r (λ ps. ps ≡ pieces_after 0 (chars t)) → IfOk r (λ ps. ps ≡ pieces_of bytes)
unfolding pieces_of
pieces_ok bytes t (Ok ps) e u h = rw is_utf8-from_IsUtf8 (h ∙ ap (λ bs. pieces_after 0 (chars bs)) e)
pieces_ok bytes t (Err error) e u h = tt

no_text : (bs : List ℕ) → (IsUtf8 bs → ⊥) → is_utf8 bs ≡ false
no_text bs h = elim (is_utf8 bs) as (λ b. is_utf8 bs ≡ b → b ≡ false) [
  | true ↦ λ e. absurd (h (IsUtf8-from_is_utf8 bs e))
  | false ↦ λ e. refl
] refl

pub pieces_empty : (bytes : List ℕ) → (IsUtf8 (quoted bytes) → ⊥) → [] ≡ pieces_of bytes
unfolding pieces_of
pieces_empty bytes h = rw (no_text (quoted bytes) h) refl

-- one more piece of a string
pub string_more : (ps : List Piece) (i : ℕ) (d : Piece) → i < length ps → encode_utf8_all (map piece_char (take (i + 1) ps)) ≡ encode_utf8_all (map piece_char (take i ps)) ++ encode_utf8 (piece_char (get_or ps i d))
string_more ps i d h =
    ap encode_utf8_all (map_more piece_char ps i d h) ∙ encodes-append (map piece_char (take i ps)) (piece_char (get_or ps i d) ∷ [])
    ∙ ap (λ bs. encode_utf8_all (map piece_char (take i ps)) ++ bs) (append-nil (encode_utf8 (piece_char (get_or ps i d))))
