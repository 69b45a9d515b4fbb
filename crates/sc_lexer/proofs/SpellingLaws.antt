-- Which bytes are escapes, and what a string's bytes spell.
use Rattle.std.proofs.Common.{◌≡◌, ◌≢◌, ℕ, suc, ◌+◌, ◌-◌, ◌<◌, ◌≤◌, ◌==◌, ◌&&◌, List, [], ◌∷◌, ◌++◌, length, take, drop, get_or, Bool, true, false, cond, refl, sym, ◌∙◌, ap, subst, arith, append_assoc, append-nil, drop-drop, Some, None, length-append, length-take, add-one, eqb-true, inl, inr}
use Rattle.std.specs.Prelude.{nat_eq, nat_le}
use Rattle.std.specs.Char.{IsScalar, is_ascii_hexdigit}
use Rattle.std.specs.Str.Parse.{digits_value}
use Rattle.std.specs.List.{list_all, take_while}
use Rattle.std.proofs.lemmas.Bool.{cases_lt, cases_Bool}
use Rattle.std.proofs.lemmas.Bool.Decides.{eqb_tells}
use Rattle.std.proofs.lemmas.List.{take-append-drop, get_or_at, get_or_past, take_more, take_rest}
use Rattle.std.proofs.lemmas.List.Sums.{take_while-cons}
use Rattle.std.proofs.Math.Utf8.{scalar}
use Rattle.std.proofs.Math.Seq.{take-add, take-length}
use Rattle.sc_laws.proofs.BoolLaws.{and_second, and_first}
use Rattle.sc_lists.proofs.TextLaws.{take_while_within, take_while_front, take_while_passes}
use Rattle.sc_lists.proofs.ListLaws.{rest_is}
use Rattle.sc_laws.proofs.NumberLaws.{nat_eq_true, at_most}
use Rattle.sc_lexer.specs.declared.piece.Piece.{Piece}
use Rattle.sc_lexer.specs.declared.piece.Piece.TheVariants.{Char, EscapedStar}
use Rattle.sc_lexer.specs.declared.piece.Escape.{Escape}
use Rattle.sc_lexer.specs.Escapes.{is_letter, IsEscape, letter, star, ascii, code, IsSpelled, ends, plain, escape, IsBadEscape, letter_char, ascii_of, braced_of, scalar_of, escape_of}
use Rattle.sc_lexer.specs.Pieces.{Means, of_letter, of_star, of_ascii, of_code}
use Rattle.sc_lexer.specs.Parts.{allows, IsPart, BeginsBadEscape}
use Rattle.sc_lexer.proofs.EscapeLaws.{ascii_some, braced_some, escape_letter, digits_front}
use Rattle.sc_lexer.proofs.RunLaws.{take-take_while}

-- an escape in front of other bytes is read

take_while-stop : (ds rest : List ℕ) (c : ℕ) → list_all is_ascii_hexdigit ds ≡ true → is_ascii_hexdigit c ≡ false → take_while is_ascii_hexdigit (ds ++ (c ∷ rest)) ≡ ds
take_while-stop [] rest c h k = rw (take_while-cons, k) refl
take_while-stop (d ∷ ds) rest c h k =
    let digit : is_ascii_hexdigit d ≡ true = and_first (is_ascii_hexdigit d) (list_all is_ascii_hexdigit ds) h in
    rw (take_while-cons, digit, take_while-stop ds rest c (and_second (is_ascii_hexdigit d) (list_all is_ascii_hexdigit ds) h) k) refl

ascii-two : (a b : ℕ) (rest : List ℕ) → is_ascii_hexdigit a ≡ true → is_ascii_hexdigit b ≡ true → digits_value 16 (a ∷ b ∷ []) ≤ 127 → ascii_of (a ∷ b ∷ rest) ≡ Some (record { piece = Char (digits_value 16 (a ∷ b ∷ [])); len = 3 })
ascii-two a b rest h k v =
    let two : 2 ≤ length (take_while is_ascii_hexdigit (a ∷ b ∷ rest)) = rw (take_while-cons is_ascii_hexdigit a (b ∷ rest), h, take_while-cons is_ascii_hexdigit b rest, k) (omega arith) in
    sym (ascii_some (a ∷ b ∷ rest) two v)

pub ascii-digits : (ds rest : List ℕ) → list_all is_ascii_hexdigit ds ≡ true → length ds ≡ 2 → digits_value 16 ds ≤ 127 → ascii_of (ds ++ rest) ≡ Some (record { piece = Char (digits_value 16 ds); len = suc (length ds) })
ascii-digits [] rest h l v = absurd (omega arith)
ascii-digits (a ∷ []) rest h l v = absurd (omega arith)
ascii-digits (a ∷ b ∷ []) rest h l v =
    ascii-two a b rest (and_first (is_ascii_hexdigit a) (list_all is_ascii_hexdigit (b ∷ [])) h) (and_first (is_ascii_hexdigit b) true (and_second (is_ascii_hexdigit a) (list_all is_ascii_hexdigit (b ∷ [])) h)) v
ascii-digits (a ∷ b ∷ c ∷ ds) rest h l v = absurd (omega arith)

braced_from : (bytes ds : List ℕ) → take_while is_ascii_hexdigit bytes ≡ ds → 1 ≤ length ds → length ds ≤ 6 → get_or bytes (length ds) 0 ≡ 125 → IsScalar (digits_value 16 ds)
    → braced_of bytes ≡ Some (record { piece = Char (digits_value 16 ds); len = length ds + 3 })
braced_from bytes ds e =
    subst (λ xs. 1 ≤ length xs → length xs ≤ 6 → get_or bytes (length xs) 0 ≡ 125 → IsScalar (digits_value 16 xs) → braced_of bytes ≡ Some (record { piece = Char (digits_value 16 xs); len = length xs + 3 })) e
    (λ l m q v.
    let front : IsScalar (digits_value 16 (take (length (take_while is_ascii_hexdigit bytes)) bytes)) = subst (λ xs. IsScalar (digits_value 16 xs)) (sym (take_while_front is_ascii_hexdigit bytes)) v in
    sym (subst (λ xs. Some (record { piece = Char (digits_value 16 xs); len = length (take_while is_ascii_hexdigit bytes) + 3 }) ≡ braced_of bytes) (take_while_front is_ascii_hexdigit bytes) (braced_some bytes l m q front)))

pub braced-digits : (ds rest : List ℕ) → list_all is_ascii_hexdigit ds ≡ true → 1 ≤ length ds → length ds ≤ 6 → IsScalar (digits_value 16 ds) → braced_of (ds ++ (125 ∷ rest)) ≡ Some (record { piece = Char (digits_value 16 ds); len = length ds + 3 })
braced-digits ds rest h l m v =
    let closing : get_or (ds ++ (125 ∷ rest)) (length ds) 0 ≡ 125 = get_or_at ds 125 rest 0 (length ds) refl in
    braced_from (ds ++ (125 ∷ rest)) ds (take_while-stop ds rest 125 h refl) l m closing v

-- an escape has a meaning that its string allows, with which it is read
pub record IsMeant (like : Bool) (e : List ℕ) : Type 0 where
  pub piece : Piece
  pub means : Means e piece
  pub allowed : allows like piece ≡ true
  pub read : (rest : List ℕ) → escape_of (e ++ rest) ≡ Some (record { piece = piece; len = length e })

pub IsMeant-escape : {like : Bool} (e : List ℕ) → IsEscape like e → IsMeant like e
unfolding escape_of scalar_of
IsMeant-escape e (letter c h) = record { piece = Char (letter_char c); means = of_letter c h; allowed = refl; read = λ rest. sym (escape_letter (c ∷ rest) h) }
IsMeant-escape e (star h) = record { piece = EscapedStar; means = of_star; allowed = h; read = λ rest. refl }
IsMeant-escape e (ascii ds h l v) = record { piece = Char (digits_value 16 ds); means = of_ascii ds; allowed = refl; read = λ rest. ascii-digits ds rest h l v }
IsMeant-escape e (code ds h l m v) =
    let long : suc (suc (length (ds ++ (125 ∷ [])))) ≡ length ds + 3 = rw length-append (omega arith) in
    record {
      piece = Char (digits_value 16 ds);
      means = of_code ds;
      allowed = refl;
      read = λ rest. rw (append_assoc ds (125 ∷ []) rest, long) (braced-digits ds rest h l m v);
    }

-- what is read is an escape

-- the first n bytes are an escape
pub record Begins (like : Bool) (bytes : List ℕ) (n : ℕ) : Type 0 where
  pub within : n ≤ length bytes
  pub is : IsEscape like (take n bytes)

cond_some : (b : Bool) (x y : Escape) → cond b (Some x) None ≡ Some y → (b ≡ true) × (x ≡ y)
cond_some true x y h = (refl, cc)
cond_some false x y h = cc

pub some_same : {x y : Escape} → Some x ≡ Some y → x ≡ y
some_same h = cc

Begins-ascii : (like : Bool) (cs : List ℕ) (e : Escape) → ascii_of cs ≡ Some e → Begins like (120 ∷ cs) e.len
unfolding ascii_of
Begins-ascii like cs e h =
    let digits = take 2 (take_while is_ascii_hexdigit cs) in
    let k = cond_some (nat_eq (length digits) 2 && nat_le (digits_value 16 digits) 127) (record { piece = Char (digits_value 16 digits); len = 3 }) e h in
    let two : length digits ≡ 2 = nat_eq_true (length digits) 2 (and_first (nat_eq (length digits) 2) (nat_le (digits_value 16 digits) 127) k.0) in
    let small : digits_value 16 digits ≤ 127 = at_most (digits_value 16 digits) 127 (and_second (nat_eq (length digits) 2) (nat_le (digits_value 16 digits) 127) k.0) in
    let some : 2 ≤ length (take_while is_ascii_hexdigit cs) = omega (arith, length-take 2 (take_while is_ascii_hexdigit cs)) in
    let front : digits ≡ take 2 cs = take-take_while is_ascii_hexdigit 2 cs some in
    subst (λ (x : Escape). Begins like (120 ∷ cs) x.len) k.1 (record {
      within = omega (arith, take_while_within is_ascii_hexdigit cs);
      is = subst (λ ds. IsEscape like (120 ∷ ds)) front (ascii digits (rw front (digits_front cs 2 some)) two small);
    })

take_two : (n : ℕ) (cs : List ℕ) → take (n + 3) (117 ∷ 123 ∷ cs) ≡ 117 ∷ 123 ∷ take (n + 1) cs
take_two n cs = let more : n + 3 ≡ suc (suc (n + 1)) = omega arith in rw more refl

Begins-braced : (like : Bool) (cs : List ℕ) (e : Escape) → braced_of cs ≡ Some e → Begins like (117 ∷ 123 ∷ cs) e.len
unfolding braced_of
Begins-braced like cs e h =
    let digits = take_while is_ascii_hexdigit cs in
    let n = length digits in
    let least = nat_le 1 n in
    let most = nat_le n 6 in
    let closing = get_or cs n 0 == 125 in
    let value = scalar (digits_value 16 digits) in
    let k = cond_some (least && most && closing && value) (record { piece = Char (digits_value 16 digits); len = n + 3 }) e h in
    let front : (least && most && closing) ≡ true = and_first (least && most && closing) value k.0 in
    let some : (least && most) ≡ true = and_first (least && most) closing front in
    let close : get_or cs n 0 ≡ 125 = eqb-true (get_or cs n 0) 125 (and_second (least && most) closing front) in
    let inside : n < length cs = elim (cases_lt n (length cs)) [
      | inl less ↦ less
      | inr above ↦ absurd (let past : get_or cs n 0 ≡ 0 = get_or_past cs n 0 above in omega arith)
    ] in
    let text : take (n + 1) cs ≡ digits ++ (125 ∷ []) = take_more cs n 0 inside ∙ ap (λ ds. ds ++ (get_or cs n 0 ∷ [])) (take_while_front is_ascii_hexdigit cs) ∙ ap (λ (c : ℕ). digits ++ (c ∷ [])) close in
    let whole : take (n + 3) (117 ∷ 123 ∷ cs) ≡ 117 ∷ 123 ∷ (digits ++ (125 ∷ [])) = take_two n cs ∙ ap (λ bs. 117 ∷ 123 ∷ bs) text in
    subst (λ (x : Escape). Begins like (117 ∷ 123 ∷ cs) x.len) k.1 (record {
      within = omega arith;
      is = rw whole (code digits (take_while_passes is_ascii_hexdigit cs) (at_most 1 n (and_first least most some)) (at_most n 6 (and_second least most some)) (and_second (least && most && closing) value k.0));
    })

Begins-scalar : (like : Bool) (cs : List ℕ) (e : Escape) → scalar_of cs ≡ Some e → Begins like (117 ∷ cs) e.len
unfolding scalar_of
Begins-scalar like [] e h = cc
Begins-scalar like (c ∷ cs) e h = elim (eqb_tells c 123) [
  | inl is ↦ rw is.1 (Begins-braced like cs e (rw is.0 at h))
  | inr other ↦ absurd (let no : None ≡ Some e = rw other.0 at h in cc)
]

pub Begins-escape : (like : Bool) (bytes : List ℕ) (e : Escape) → escape_of bytes ≡ Some e → allows like e.piece ≡ true → Begins like bytes e.len
unfolding escape_of
Begins-escape like [] e h a = cc
Begins-escape like (c ∷ cs) e h a = elim (cases_Bool (is_letter c)) [
  | inl is ↦ let k : record { piece = Char (letter_char c); len = 1 } ≡ e = some_same (rw is at h) in subst (λ (x : Escape). Begins like (c ∷ cs) x.len) k (record { within = omega arith; is = letter c is })
  | inr none ↦ elim (eqb_tells c 42) [
    | inl is ↦
        let k : record { piece = EscapedStar; len = 1 } ≡ e = some_same (rw (none, is.0) at h) in
        let allowed : like ≡ true = subst (λ (x : Escape). allows like x.piece ≡ true) (sym k) a in
        subst (λ (x : Escape). Begins like (c ∷ cs) x.len) k (record { within = omega arith; is = rw is.1 (star allowed) })
    | inr no_star ↦ elim (eqb_tells c 120) [
      | inl is ↦ rw is.1 (Begins-ascii like cs e (rw (none, no_star.0, is.0) at h))
      | inr no_ascii ↦ elim (eqb_tells c 117) [
        | inl is ↦ rw is.1 (Begins-scalar like cs e (rw (none, no_star.0, no_ascii.0, is.0) at h))
        | inr other ↦ absurd (let no : None ≡ Some e = rw (none, no_star.0, no_ascii.0, other.0) at h in cc)
      ]
    ]
  ]
]

-- a byte or an escape in front

pub IsPart_plain : (like : Bool) (bytes : List ℕ) → 0 < length bytes → get_or bytes 0 0 ≢ 92 → IsPart like bytes 1
IsPart_plain like [] some h = absurd (omega arith)
IsPart_plain like (c ∷ cs) some h = record { within = omega arith; some = omega arith; spelled = plain c [] h ends }

pub IsPart_escape : (like : Bool) (bytes : List ℕ) (e : Escape) → 0 < length bytes → get_or bytes 0 0 ≡ 92 → Some e ≡ escape_of (take (length bytes - 1) (drop 1 bytes)) → allows like e.piece ≡ true
    → IsPart like bytes (e.len + 1)
IsPart_escape like [] e some q h a = absurd (omega arith)
IsPart_escape like (c ∷ cs) e some q h a =
    let begins = Begins-escape like cs e (ap escape_of (sym (rest_is c cs)) ∙ sym h) a in
    let text : IsSpelled like (92 ∷ (take e.len cs ++ [])) = escape (take e.len cs) [] begins.is ends in
    record {
      within = omega (arith, begins.within);
      some = omega arith;
      spelled = rw (add-one, q) (subst (λ bs. IsSpelled like (92 ∷ bs)) (append-nil (take e.len cs)) text);
    }

-- what is read begins with no escape, or with one that is allowed
pub BeginsBadEscape_none : (like : Bool) (bytes : List ℕ) → 0 < length bytes → get_or bytes 0 0 ≡ 92 → None ≡ escape_of (take (length bytes - 1) (drop 1 bytes)) → BeginsBadEscape like bytes
BeginsBadEscape_none like [] some q h = absurd (omega arith)
BeginsBadEscape_none like (c ∷ cs) some q h = record {
  after = cs;
  parts = rw q refl;
  bad = λ e rest is escapes.
      let meant = IsMeant-escape e escapes in
      let none : None ≡ escape_of cs = h ∙ ap escape_of (rest_is c cs) in
      let both : None ≡ Some (record { piece = meant.piece; len = length e }) = none ∙ ap escape_of is ∙ meant.read rest in
      cc;
}

pub BeginsBadEscape_star : (like : Bool) (bytes : List ℕ) (found : Escape) → 0 < length bytes → get_or bytes 0 0 ≡ 92 → Some found ≡ escape_of (take (length bytes - 1) (drop 1 bytes)) → allows like found.piece ≡ false
    → BeginsBadEscape like bytes
BeginsBadEscape_star like [] found some q h a = absurd (omega arith)
BeginsBadEscape_star like (c ∷ cs) found some q h a = record {
  after = cs;
  parts = rw q refl;
  bad = λ e rest is escapes.
      let meant = IsMeant-escape e escapes in
      let same : found ≡ record { piece = meant.piece; len = length e } = some_same (h ∙ ap escape_of (rest_is c cs ∙ is) ∙ meant.read rest) in
      let allowed : allows like found.piece ≡ true = subst (λ (x : Escape). allows like x.piece ≡ true) (sym same) meant.allowed in
      let both : false ≡ true = sym a ∙ allowed in
      cc;
}

-- one spelling after another
IsSpelled-append : {like : Bool} (xs ys : List ℕ) → IsSpelled like xs → IsSpelled like ys → IsSpelled like (xs ++ ys)
IsSpelled-append {like} xs ys ends t = t
IsSpelled-append {like} xs ys (plain c rest h s) t = plain c (rest ++ ys) h (IsSpelled-append rest ys s t)
IsSpelled-append {like} xs ys (escape e rest h s) t = subst (λ bs. IsSpelled like (92 ∷ bs)) (sym (append_assoc e rest ys)) (escape e (rest ++ ys) h (IsSpelled-append rest ys s t))

pub IsSpelled_start : (like : Bool) → IsSpelled like []
IsSpelled_start like = ends

-- one part further
pub IsSpelled_more : (like : Bool) (text : List ℕ) (at n : ℕ) → IsSpelled like (take at text) → IsPart like (take (length text - at) (drop at text)) n → IsSpelled like (take (at + n) text)
IsSpelled_more like text at n s p =
    let part : IsSpelled like (take n (drop at text)) = subst (λ bs. IsSpelled like (take n bs)) (take_rest text at) p.spelled in
    subst (IsSpelled like) (sym (take-add at n text)) (IsSpelled-append (take at text) (take n (drop at text)) s part)

pub IsSpelled_all : (like : Bool) (text : List ℕ) (at : ℕ) → IsSpelled like (take at text) → at ≡ length text → IsSpelled like text
IsSpelled_all like text at s e = subst (IsSpelled like) (ap (λ (n : ℕ). take n text) e ∙ take-length text) s

-- the backslash at a place that begins no escape is the first
pub IsBadEscape_at : (like : Bool) (text : List ℕ) (at : ℕ) → IsSpelled like (take at text) → BeginsBadEscape like (take (length text - at) (drop at text)) → IsBadEscape like text (take at text) (drop (at + 1) text)
IsBadEscape_at like text at s b =
    let rest : drop at text ≡ 92 ∷ b.after = sym (take_rest text at) ∙ b.parts in
    let after : drop (at + 1) text ≡ b.after = sym (drop-drop 1 at text) ∙ ap (drop 1) rest in
    record {
      parts = sym (take-append-drop at text) ∙ ap (λ bs. take at text ++ bs) (rest ∙ ap (λ bs. 92 ∷ bs) (sym after));
      spelled = s;
      bad = λ e others is. b.bad e others (sym after ∙ is);
    }
