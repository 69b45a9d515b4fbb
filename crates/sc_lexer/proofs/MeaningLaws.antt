-- What the characters of a string spell is what is given for them.
use Rattle.std.proofs.Common.{◌≡◌, ◌≢◌, ℕ, zero, suc, ◌+◌, ◌-◌, ◌<◌, ◌≤◌, ◌==◌, List, [], ◌∷◌, ◌++◌, length, take, drop, get_or, Bool, true, false, refl, sym, ◌∙◌, ap, subst, append_assoc, length-append, arith, append-nil, eqb-true, Result, Ok, Err, Some, inl, inr}
use Rattle.std.specs.Prelude.{IfOk}
use Rattle.std.specs.Char.{IsScalar, encode_utf8, is_ascii_hexdigit}
use Rattle.std.specs.Str.{IsUtf8, IsCharBoundary, chars, encode_utf8_all}
use Rattle.std.specs.Str.Parse.{digits_value}
use Rattle.std.specs.List.{list_all}
use Rattle.std.specs.declared.alloc.AllocError.{AllocError}
use Rattle.std.proofs.Math.Utf8.{scalars, scalar}
use Rattle.std.proofs.lemmas.Bool.Decides.{nat_tests, eqb_tells}
use Rattle.std.proofs.lemmas.List.{drop_at, append_cancel_left, append_cancel_right}
use Rattle.std.proofs.lemmas.Str.{encodes-append, encodes-IsAscii, chars-encodes, chars-append, chars-IsAscii, IsUtf8-from_ascii, inside_one, encode_ascii, encodes-chars, scalars-chars, is_utf8-from_IsUtf8, IsUtf8-between, IsCharBoundary-after_ascii, IsCharBoundary-before_ascii}
use Rattle.sc_laws.proofs.BoolLaws.{and_second, and_first}
use Rattle.sc_lexer.specs.declared.piece.Piece.{Piece}
use Rattle.sc_lexer.specs.declared.piece.Piece.TheVariants.{Char, Star}
use Rattle.sc_lexer.specs.Escapes.{is_letter, IsEscape, letter, star, ascii, code, IsSpelled, ends, plain, escape, ascii_of, braced_of, scalar_of, escape_of}
use Rattle.sc_lexer.specs.Pieces.{Means, of_letter, of_star, of_ascii, of_code, Spells, nothing, character, wildcard, escaped, quoted, pieces_after, pieces_of}
use Rattle.sc_lexer.specs.declared.token.Kind.TheVariants.{Str}
use Rattle.sc_lexer.specs.Tokens.{closes, is_string, kind_of}
use Rattle.sc_lexer.proofs.FrontLaws.{ends_ascii}
use Rattle.sc_lexer.proofs.KindLaws.{is_string-kind}
use Rattle.sc_lexer.proofs.StringLaws.{closes-plain, closes-pair, closes-quote, closes_last}
use Rattle.sc_lexer.proofs.EscapeLaws.{escape_letter}
use Rattle.sc_lexer.proofs.SpellingLaws.{IsMeant-escape, ascii-digits, braced-digits}
use Rattle.sc_lexer.proofs.UnescapingLaws.{IsAscii-escape, pieces-skip, pieces_plain, pieces_star}

-- spelled pieces are the ones that are given

-- an escape that begins with `x` is one of two digits, one that begins with `u{` one of a scalar value
letter_of : (c d : ℕ) → is_letter c ≡ true → c ≡ d → is_letter d ≡ false → ⊥
letter_of c d h e k = let both : false ≡ true = sym k ∙ ap is_letter (sym e) ∙ h in cc

same_digits : (xs ds rest : List ℕ) → 120 ∷ xs ≡ 120 ∷ ds → list_all is_ascii_hexdigit xs ≡ true → length xs ≡ 2 → digits_value 16 xs ≤ 127 → ascii_of (ds ++ rest) ≡ Some (record { piece = Char (digits_value 16 ds); len = suc (length ds) })
same_digits xs ds rest e h l v =
    let same : xs ≡ ds = cc in
    subst (λ bs. ascii_of (bs ++ rest) ≡ Some (record { piece = Char (digits_value 16 bs); len = suc (length bs) })) same (ascii-digits xs rest h l v)

after_x : {like : Bool} {e : List ℕ} (ds rest : List ℕ) → IsEscape like e → e ≡ 120 ∷ ds → ascii_of (ds ++ rest) ≡ Some (record { piece = Char (digits_value 16 ds); len = suc (length ds) })
after_x ds rest (letter c h) e = let first : c ≡ 120 = cc in absurd (letter_of c 120 h first refl)
after_x ds rest (star h) e = cc
after_x ds rest (ascii xs h l v) e = same_digits xs ds rest e h l v
after_x ds rest (code xs h l m v) e = let both : false ≡ true = ap (λ (bs : List ℕ). get_or bs 0 0 == 120) e in cc

same_code : (xs ds rest : List ℕ) → 117 ∷ 123 ∷ (xs ++ (125 ∷ [])) ≡ 117 ∷ 123 ∷ (ds ++ (125 ∷ [])) → list_all is_ascii_hexdigit xs ≡ true → 1 ≤ length xs → length xs ≤ 6 → IsScalar (digits_value 16 xs)
    → braced_of (ds ++ (125 ∷ rest)) ≡ Some (record { piece = Char (digits_value 16 ds); len = length ds + 3 })
same_code xs ds rest e h l m v =
    let whole : xs ++ (125 ∷ []) ≡ ds ++ (125 ∷ []) = cc in
    let same : xs ≡ ds = append_cancel_right xs ds (125 ∷ []) whole in
    subst (λ bs. braced_of (bs ++ (125 ∷ rest)) ≡ Some (record { piece = Char (digits_value 16 bs); len = length bs + 3 })) same (braced-digits xs rest h l m v)

after_u : {like : Bool} {e : List ℕ} (ds rest : List ℕ) → IsEscape like e → e ≡ 117 ∷ 123 ∷ (ds ++ (125 ∷ [])) → braced_of (ds ++ (125 ∷ rest)) ≡ Some (record { piece = Char (digits_value 16 ds); len = length ds + 3 })
after_u ds rest (letter c h) e = cc
after_u ds rest (star h) e = cc
after_u ds rest (ascii xs h l v) e = let both : false ≡ true = ap (λ (bs : List ℕ). get_or bs 0 0 == 117) e in cc
after_u ds rest (code xs h l m v) e = same_code xs ds rest e h l m v

Means_read : (e rest : List ℕ) (p : Piece) → IsEscape true e → Means e p → escape_of (e ++ rest) ≡ Some (record { piece = p; len = length e })
unfolding escape_of scalar_of
Means_read e rest p h (of_letter c k) = sym (escape_letter (c ∷ rest) k)
Means_read e rest p h of_star = refl
Means_read e rest p h (of_ascii ds) = after_x ds rest h refl
Means_read e rest p h (of_code ds) =
    let long : suc (suc (length (ds ++ (125 ∷ [])))) ≡ length ds + 3 = rw length-append (omega arith) in
    rw (append_assoc ds (125 ∷ []) rest, long) (after_u ds rest h refl)

pub Spells_given : (cs : List ℕ) (ps : List Piece) → Spells cs ps → pieces_after 0 cs ≡ ps
unfolding pieces_after
Spells_given cs ps nothing = refl
Spells_given cs ps (character c ds qs h k s) = pieces_plain (c ∷ ds) ds c refl h k ∙ ap (λ xs. Char c ∷ xs) (Spells_given ds qs s)
Spells_given cs ps (wildcard ds qs s) = pieces_star (42 ∷ ds) ds refl ∙ ap (λ xs. Star ∷ xs) (Spells_given ds qs s)
Spells_given cs ps (escaped e ds p qs h m s) =
    rw (Means_read e ds p h m) (ap (λ xs. p ∷ xs) (pieces-skip (length e) (e ++ ds) ∙ ap (pieces_after 0) (drop_at e ds (length e) refl) ∙ Spells_given ds qs s))

-- spelled bytes spell pieces

spelled_tail : {like : Bool} {t : List ℕ} (c : ℕ) (rest : List ℕ) → IsSpelled like t → t ≡ c ∷ rest → c ≢ 92 → IsSpelled like rest
spelled_tail c rest ends e h = cc
spelled_tail {like} c rest (plain d r k s) e h = let same : r ≡ rest = cc in subst (IsSpelled like) same s
spelled_tail c rest (escape f r k s) e h = let same : 92 ≡ c = cc in absurd (h (sym same))

strip : {like : Bool} (xs ys : List ℕ) → IsSpelled like (xs ++ ys) → ((i : ℕ) → i < length xs → get_or xs i 0 ≢ 92) → IsSpelled like ys
strip [] ys s h = s
strip (x ∷ xs) ys s h = strip xs ys (spelled_tail x (xs ++ ys) s refl (h 0 (omega arith))) (λ i l. h (suc i) (omega arith))

no_backslash : (c : ℕ) → c ≢ 92 → (i : ℕ) → i < length (encode_utf8 c) → get_or (encode_utf8 c) i 0 ≢ 92
no_backslash c h i l e = h (inside_one c [] (encode_utf8 c) i (sym (append-nil (encode_utf8 c))) l (omega arith) ∙ e)

-- what follows a backslash
record Follows (bs : List ℕ) : Type 0 where
  e : List ℕ
  rest : List ℕ
  parts : bs ≡ e ++ rest
  is : IsEscape true e
  spelled : IsSpelled true rest

after_backslash : {t : List ℕ} (bs : List ℕ) → IsSpelled true t → t ≡ 92 ∷ bs → Follows bs
after_backslash bs ends e = cc
after_backslash bs (plain c r h s) e = let same : c ≡ 92 = cc in absurd (h same)
after_backslash bs (escape f r h s) e = record { e = f; rest = r; parts = cc; is = h; spelled = s }

scalars_rest : (xs ys : List ℕ) → scalars (xs ++ ys) ≡ true → scalars ys ≡ true
scalars_rest [] ys h = h
scalars_rest (x ∷ xs) ys h = scalars_rest xs ys (and_second (scalar x) (scalars (xs ++ ys)) h)

-- the characters after an escape
record Leaves (cs e rest : List ℕ) : Type 0 where
  parts : cs ≡ e ++ chars rest
  bytes : encode_utf8_all (chars rest) ≡ rest

leaves : (cs : List ℕ) (f : Follows (encode_utf8_all cs)) → scalars cs ≡ true → Leaves cs f.e f.rest
leaves cs f h =
    let small = IsAscii-escape f.e f.is in
    let parts : cs ≡ f.e ++ chars f.rest =
    sym (chars-encodes cs h) ∙ ap chars f.parts ∙ chars-append f.e f.rest (IsUtf8-from_ascii f.e small) ∙ ap (λ bs. bs ++ chars f.rest) (chars-IsAscii f.e small) in
    let whole : f.e ++ encode_utf8_all (chars f.rest) ≡ f.e ++ f.rest =
    sym (ap (λ bs. bs ++ encode_utf8_all (chars f.rest)) (encodes-IsAscii f.e small)) ∙ sym (encodes-append f.e (chars f.rest)) ∙ sym (ap encode_utf8_all parts) ∙ f.parts in
    record { parts = parts; bytes = append_cancel_left f.e (encode_utf8_all (chars f.rest)) f.rest whole }

-- some pieces that characters spell
record SpellsSome (cs : List ℕ) : Type 0 where
  pieces : List Piece
  spelled : Spells cs pieces

spell : (n : ℕ) (cs : List ℕ) → length cs ≤ n → scalars cs ≡ true → IsSpelled true (encode_utf8_all cs) → SpellsSome cs
spell n [] l h s = record { pieces = []; spelled = nothing }
spell zero (c ∷ cs) l h s = absurd (omega arith)
spell (suc n) (c ∷ cs) l h s =
    let valid : scalars cs ≡ true = and_second (scalar c) (scalars cs) h in
    elim (eqb_tells c 92) [
      | inl is ↦
          let bytes : encode_utf8 c ++ encode_utf8_all cs ≡ 92 ∷ encode_utf8_all cs = ap (λ bs. bs ++ encode_utf8_all cs) (ap encode_utf8 is.1 ∙ encode_ascii 92 (omega arith)) in
          let f = after_backslash (encode_utf8_all cs) s bytes in
          let left = leaves cs f valid in
          let meant = IsMeant-escape f.e f.is in
          let shorter : length (chars f.rest) ≤ n = omega (arith, ap length left.parts, length-append f.e (chars f.rest)) in
          let more = spell n (chars f.rest) shorter (scalars_rest f.e (chars f.rest) (subst (λ xs. scalars xs ≡ true) left.parts valid)) (subst (IsSpelled true) (sym left.bytes) f.spelled) in
          rw (is.1, left.parts) (record { pieces = meant.piece ∷ more.pieces; spelled = escaped f.e (chars f.rest) meant.piece more.pieces f.is meant.means more.spelled })
      | inr plain_one ↦
          let more = spell n cs (omega arith) valid (strip (encode_utf8 c) (encode_utf8_all cs) s (no_backslash c plain_one.1)) in
          elim (eqb_tells c 42) [
            | inl is ↦ rw is.1 (record { pieces = Star ∷ more.pieces; spelled = wildcard cs more.pieces more.spelled })
            | inr other ↦ record { pieces = Char c ∷ more.pieces; spelled = character c cs more.pieces plain_one.1 other.1 more.spelled }
          ]
    ]

-- a string's quotes stand around what is spelled

escape_pattern : {like : Bool} (e : List ℕ) → IsEscape like e → IsEscape true e
escape_pattern e (letter c h) = letter c h
escape_pattern e (star h) = star refl
escape_pattern e (ascii ds h l v) = ascii ds h l v
escape_pattern e (code ds h l m v) = code ds h l m v

spelled_pattern : {like : Bool} (t : List ℕ) → IsSpelled like t → IsSpelled true t
spelled_pattern t ends = ends
spelled_pattern t (plain c r h s) = plain c r h (spelled_pattern r s)
spelled_pattern t (escape e r h s) = escape e r (escape_pattern e h) (spelled_pattern r s)

last_taken : (xs ys : List ℕ) → 0 < length ys → take (length (xs ++ ys) - 1) (xs ++ ys) ≡ xs ++ take (length ys - 1) ys
last_taken [] ys h = refl
last_taken (x ∷ xs) ys h =
    let next : length (x ∷ (xs ++ ys)) - 1 ≡ suc (length (xs ++ ys) - 1) = omega (arith, length-append xs ys) in
    rw next (ap (λ zs. x ∷ zs) (last_taken xs ys h))

digit_plain : (d : ℕ) → is_ascii_hexdigit d ≡ true → d ≢ 92
digit_plain d h = grind (arith, nat_tests)

digit_quote : (d : ℕ) → is_ascii_hexdigit d ≡ true → d ≢ 34
digit_quote d h = grind (arith, nat_tests)

closes-digits : (ds rest : List ℕ) → list_all is_ascii_hexdigit ds ≡ true → closes (ds ++ rest) ≡ closes rest
closes-digits [] rest h = refl
closes-digits (d ∷ ds) rest h =
    let digit : is_ascii_hexdigit d ≡ true = and_first (is_ascii_hexdigit d) (list_all is_ascii_hexdigit ds) h in
    closes-plain d (ds ++ rest) (digit_plain d digit) (digit_quote d digit) ∙ closes-digits ds rest (and_second (is_ascii_hexdigit d) (list_all is_ascii_hexdigit ds) h)

closes-escape : {like : Bool} (e rest : List ℕ) → IsEscape like e → closes (92 ∷ (e ++ rest)) ≡ closes rest
closes-escape e rest (letter c h) = closes-pair 92 c rest refl
closes-escape e rest (star h) = closes-pair 92 42 rest refl
closes-escape e rest (ascii ds h l v) = closes-pair 92 120 (ds ++ rest) refl ∙ closes-digits ds rest h
closes-escape e rest (code ds h l m v) =
    closes-pair 92 117 (123 ∷ (ds ++ (125 ∷ []) ++ rest)) refl ∙ closes-plain 123 (ds ++ (125 ∷ []) ++ rest) (omega arith) (omega arith)
    ∙ ap closes (append_assoc ds (125 ∷ []) rest) ∙ closes-digits ds (125 ∷ rest) h ∙ closes-plain 125 rest (omega arith) (omega arith)

spelled_inner : {like : Bool} (u : List ℕ) → IsSpelled like u → closes u ≡ true → IsSpelled like (take (length u - 1) u)
spelled_inner u ends h = ends
spelled_inner u (plain c [] k s) h = ends
spelled_inner {like} u (plain c (d ∷ ds) k s) h = elim (eqb_tells c 34) [
  | inl quote ↦ absurd (let both : false ≡ true = sym (closes-quote d ds) ∙ subst (λ (x : ℕ). closes (x ∷ d ∷ ds) ≡ true) quote.1 h in cc)
  | inr other ↦ subst (IsSpelled like) (sym (last_taken (c ∷ []) (d ∷ ds) (omega arith))) (plain c (take (length (d ∷ ds) - 1) (d ∷ ds)) k (spelled_inner (d ∷ ds) s (sym (closes-plain c (d ∷ ds) k other.1) ∙ h)))
]
spelled_inner {like} u (escape e r k s) h =
    let more : closes r ≡ true = sym (closes-escape e r k) ∙ h in
    subst (IsSpelled like) (sym (last_taken (92 ∷ e) r (closes_last r more).0)) (escape e (take (length r - 1) r) k (spelled_inner r s more))

-- what a string token stands for

quoted_utf8 : (t : List ℕ) → kind_of t ≡ Some Str → 2 ≤ length t → get_or t 0 0 ≡ 34 → IsUtf8 t → IsUtf8 (quoted t)
quoted_utf8 t h l q u =
    let first : IsCharBoundary t 1 = IsCharBoundary-after_ascii t 0 u (omega arith) (omega arith) in
    let last : IsCharBoundary t (length t - 1) = IsCharBoundary-before_ascii t (length t - 1) (omega arith) (ends_ascii t Str h).last in
    let size : length t - 1 - 1 ≡ length t - 2 = omega arith in
    subst (λ (n : ℕ). IsUtf8 (take n (drop 1 t))) size (IsUtf8-between t 1 (length t - 1) u (omega arith) first last)

quoted_spelled : {like : Bool} (t : List ℕ) → is_string t ≡ true → IsSpelled like t → IsSpelled like (quoted t)
quoted_spelled [] h s = cc
quoted_spelled {like} (c ∷ u) h s =
    let quote : c ≡ 34 = eqb-true c 34 (and_first (c == 34) (closes u) h) in
    let inner = spelled_inner u (spelled_tail c u s refl (omega arith)) (and_second (c == 34) (closes u) h) in
    let size : length (c ∷ u) - 2 ≡ length u - 1 = omega arith in
    subst (λ (n : ℕ). IsSpelled like (take n u)) (sym size) inner

some_quoted : (t : List ℕ) → is_string t ≡ true → (2 ≤ length t) × (get_or t 0 0 ≡ 34)
some_quoted [] h = cc
some_quoted (c ∷ u) h =
    let end = closes_last u (and_second (c == 34) (closes u) h) in
    (omega (arith, end.0), eqb-true c 34 (and_first (c == 34) (closes u) h))

pub Spells_string : {like : Bool} (t : List ℕ) → kind_of t ≡ Some Str → IsUtf8 t → IsSpelled like t → Spells (chars (quoted t)) (pieces_of t)
unfolding pieces_of
Spells_string t h u s =
    let is = is_string-kind t h in
    let some = some_quoted t is in
    let utf8 = quoted_utf8 t h some.0 some.1 u in
    let bytes = subst (IsSpelled true) (sym (encodes-chars (quoted t) utf8)) (spelled_pattern (quoted t) (quoted_spelled t is s)) in
    let all = spell (length (chars (quoted t))) (chars (quoted t)) (omega arith) (scalars-chars (quoted t) utf8) bytes in
    let given : pieces_after 0 (chars (quoted t)) ≡ all.pieces = Spells_given (chars (quoted t)) all.pieces all.spelled in
    rw (is_utf8-from_IsUtf8 (quoted t) utf8, given) all.spelled

-- the clause of a call
pub pieces_spelled : (bytes : List ℕ) (r : Result (List Piece) AllocError) → IfOk r (λ ps. ps ≡ pieces_of bytes) → (told : List Piece) → IsUtf8 (quoted bytes) → Spells (chars (quoted bytes)) told → IfOk r (λ ps. ps ≡ told)
unfolding pieces_of
pieces_spelled bytes (Ok ps) h told u s =
    let all : pieces_of bytes ≡ told = rw is_utf8-from_IsUtf8 (Spells_given (chars (quoted bytes)) told s) in
    h ∙ all
pieces_spelled bytes (Err error) h told u s = tt

-- ---- a string stands for one text

pub some_spelling : (like : Bool) (t : List ℕ) → kind_of t ≡ Some Str → IsUtf8 t → IsSpelled like t → (ps : List Piece) × Spells (chars (quoted t)) ps
some_spelling like t k u s = (pieces_of t, Spells_string {like = like} t k u s)

pub one_spelling : (cs : List ℕ) (ps qs : List Piece) → Spells cs ps → Spells cs qs → ps ≡ qs
one_spelling cs ps qs p q = sym (Spells_given cs ps p) ∙ Spells_given cs qs q
