-- Characters of texts and of fields' names are read back.
use Rattle.std.proofs.Common.{◌≡◌, ◌⊎◌, ◌<◌, ◌≤◌, ◌==◌, ◌+◌, ◌*◌, ◌^◌, ℕ, zero, suc, Bool, true, false, not, ◌&&◌, ◌||◌, cond, List, [], ◌∷◌, ◌++◌, length, refl, sym, ap, ◌∙◌, subst, inl, inr, append_assoc, append-nil, arith, lit<, lit≤, nat_lt, nat_le}
use Rattle.std.specs.Prelude.{flat_map}
use Rattle.std.specs.List.{list_all}
use Rattle.std.specs.Char.{digit_value}
use Rattle.std.specs.Fmt.{digits}
use Rattle.std.specs.Str.Parse.{AllDigits, digits_value, digits_value_after}
use Rattle.std.proofs.lemmas.Bool.{and_parts, and_from, not-true, ne_eqb, eqb-true, ltb-true, lt-ltb}
use Rattle.std.proofs.lemmas.Fmt.{digits_is_IsNumeral}
use Rattle.sc_smtlib_words.specs.Cut.{lacks}
use Rattle.sc_smtlib_forms.specs.Characters.{in_braces, label_character, text_character, is_letter_or_digit}
use Rattle.sc_smtlib_words.specs.Characters.{Place, plain, quote, slash, letter, hex, is_character, is_text, more_hex, text_at, text_next, text_from, text_in, label_at, label_next, label_from, label_in}
use Rattle.sc_smtlib_words.specs.Words.{IsDoubled, none, doubled, other}
use Rattle.sc_smtlib_words.proofs.WordLaws.{or_false, lacks_append}

character_small : (c : ℕ) → is_character c ≡ true → c < 1114112
character_small c e = ltb-true c 1114112 e

hex_digits : (c : ℕ) → is_character c ≡ true → AllDigits 16 (digits 16 false c)
hex_digits c e = (digits_is_IsNumeral 16 false (lit≤ tt) (lit≤ tt) c (let h = character_small c e in omega arith)).0.1

hex_value : (c : ℕ) → is_character c ≡ true → digits_value 16 (digits 16 false c) ≡ c
hex_value c e = (digits_is_IsNumeral 16 false (lit≤ tt) (lit≤ tt) c (let h = character_small c e in omega arith)).1

-- a digit is no brace and no quote
digit_apart : (b c : ℕ) → digit_value b < 16 → (digit_value c < 16 → ⊥) → (b == c) ≡ false
digit_apart b c h never = ne_eqb b c (λ e. never (subst (λ z. digit_value z < 16) e h))

value_grows : (n : ℕ) (ds : List ℕ) → n ≤ digits_value_after 16 n ds
value_grows n [] = omega arith
value_grows n (d ∷ ds) = let h = value_grows (n * 16 + digit_value d) ds in omega arith

more_is : (n b : ℕ) → n < 2 ^ 24 → more_hex n b ≡ n * 16 + digit_value b
more_is n b h = let t = lt-ltb n (2 ^ 24) h in rw t refl

-- ---- texts

hex_goes : (ds r : List ℕ) (n : ℕ) → AllDigits 16 ds → digits_value_after 16 n ds < 2 ^ 24 → text_from (hex n) (ds ++ 125 ∷ r) ≡ digits_value_after 16 n ds ∷ text_from plain r
hex_goes [] r n all small = refl
hex_goes (d ∷ ds) r n all small =
    let a = digit_apart d 125 all.0 (λ h. absurd (omega arith)) in
    let grows = value_grows n (d ∷ ds) in
    let m = more_is n d (omega arith) in
    rw (a, m) (hex_goes ds r (n * 16 + digit_value d) all.1 small)

character_read : (c : ℕ) (r : List ℕ) (q s : Bool) → is_character c ≡ true → (c == 34) ≡ q → (c == 92 || (nat_lt c 32 || nat_lt 126 c)) ≡ s
    → text_from plain (cond q (34 ∷ 34 ∷ []) (cond s (92 ∷ 117 ∷ in_braces c) (c ∷ [])) ++ r) ≡ c ∷ text_from plain r
character_read c r true s e is_quote f = ap (λ z. z ∷ text_from plain r) (sym (eqb-true c 34 is_quote))
character_read c r false true e is_quote f =
    let v = hex_value c e in let small = character_small c e in
    ap (text_from (hex 0)) (append_assoc (digits 16 false c) (125 ∷ []) r)
    ∙ hex_goes (digits 16 false c) r 0 (hex_digits c e) (omega arith)
    ∙ ap (λ z. z ∷ text_from plain r) v
character_read c r false false e is_quote f = let g = (or_false (c == 92) _ f).0 in rw (is_quote, g) refl

pub text_again : (t : List ℕ) → is_text t ≡ true → text_from plain (flat_map text_character t) ≡ t
text_again [] e = refl
text_again (c ∷ t) e =
    let both = and_parts (is_character c) (is_text t) e in
    character_read c (flat_map text_character t) (c == 34) (c == 92 || (nat_lt c 32 || nat_lt 126 c)) both.0 refl refl ∙ ap (λ z. c ∷ z) (text_again t both.1)

-- ---- fields' names

label_goes : (ds r : List ℕ) (n : ℕ) → AllDigits 16 ds → digits_value_after 16 n ds < 2 ^ 24 → label_from (hex n) (ds ++ 125 ∷ r) ≡ digits_value_after 16 n ds ∷ label_from plain r
label_goes [] r n all small = refl
label_goes (d ∷ ds) r n all small =
    let a = digit_apart d 125 all.0 (λ h. absurd (omega arith)) in
    let grows = value_grows n (d ∷ ds) in
    let m = more_is n d (omega arith) in
    rw (a, m) (label_goes ds r (n * 16 + digit_value d) all.1 small)

letter_apart : (c b : ℕ) → is_letter_or_digit c ≡ true → is_letter_or_digit b ≡ false → (c == b) ≡ false
letter_apart c b e f = ne_eqb c b (λ q. let t : false ≡ true = sym f ∙ ap is_letter_or_digit (sym q) ∙ e in cc)

label_read : (c : ℕ) (r : List ℕ) (s : Bool) → is_character c ≡ true → is_letter_or_digit c ≡ s → label_from plain (cond s (c ∷ []) (in_braces c) ++ r) ≡ c ∷ label_from plain r
label_read c r true e f = let a = letter_apart c 123 f refl in rw a refl
label_read c r false e f =
    let v = hex_value c e in let small = character_small c e in
    ap (label_from (hex 0)) (append_assoc (digits 16 false c) (125 ∷ []) r)
    ∙ label_goes (digits 16 false c) r 0 (hex_digits c e) (omega arith)
    ∙ ap (λ z. z ∷ label_from plain r) v

pub label_again : (t : List ℕ) → is_text t ≡ true → label_from plain (flat_map label_character t) ≡ t
label_again [] e = refl
label_again (c ∷ t) e =
    let both = and_parts (is_character c) (is_text t) e in
    label_read c (flat_map label_character t) (is_letter_or_digit c) both.0 refl ∙ ap (λ z. c ∷ z) (label_again t both.1)

-- ---- which bytes aren't there

digits_lack : (b : ℕ) → (digit_value b < 16 → ⊥) → (ds : List ℕ) → AllDigits 16 ds → lacks b ds ≡ true
digits_lack b never [] all = refl
digits_lack b never (d ∷ ds) all = let a = digit_apart d b all.0 never in rw a (digits_lack b never ds all.1)

braces_lack : (b c : ℕ) → (digit_value b < 16 → ⊥) → (123 == b) ≡ false → (125 == b) ≡ false → is_character c ≡ true → lacks b (in_braces c) ≡ true
braces_lack b c never e f g = rw e (lacks_append b (digits 16 false c) (125 ∷ []) (digits_lack b never (digits 16 false c) (hex_digits c g)) (rw f refl))

label_character_lacks : (b c : ℕ) (s : Bool) → (digit_value b < 16 → ⊥) → (123 == b) ≡ false → (125 == b) ≡ false → is_letter_or_digit b ≡ false → is_character c ≡ true → is_letter_or_digit c ≡ s
    → lacks b (cond s (c ∷ []) (in_braces c)) ≡ true
label_character_lacks b c true never e f l g h = let a = letter_apart c b h l in rw a refl
label_character_lacks b c false never e f l g h = braces_lack b c never e f g

-- no field's name has a byte that is no letter, no digit and no brace
pub label_lacks : (b : ℕ) → (digit_value b < 16 → ⊥) → (123 == b) ≡ false → (125 == b) ≡ false → is_letter_or_digit b ≡ false → (t : List ℕ) → is_text t ≡ true → lacks b (flat_map label_character t) ≡ true
label_lacks b never e f l [] h = refl
label_lacks b never e f l (c ∷ t) h =
    let both = and_parts (is_character c) (is_text t) h in
    lacks_append b (label_character c) (flat_map label_character t) (label_character_lacks b c (is_letter_or_digit c) never e f l both.0 refl) (label_lacks b never e f l t both.1)

-- ---- quotes in texts are doubled

others : (xs ys : List ℕ) → lacks 34 xs ≡ true → IsDoubled ys → IsDoubled (xs ++ ys)
others [] ys e d = d
others (x ∷ xs) ys e d = let both = and_parts (not (x == 34)) (lacks 34 xs) e in other (not-true (x == 34) both.0) (others xs ys both.1 d)

character_doubled : (c : ℕ) (r : List ℕ) (q s : Bool) → is_character c ≡ true → (c == 34) ≡ q → IsDoubled r → IsDoubled (cond q (34 ∷ 34 ∷ []) (cond s (92 ∷ 117 ∷ in_braces c) (c ∷ [])) ++ r)
character_doubled c r true s e f d = doubled d
character_doubled c r false true e f d = others (92 ∷ 117 ∷ in_braces c) r (braces_lack 34 c (λ h. absurd (omega arith)) refl refl e) d
character_doubled c r false false e f d = other f d

pub text_doubled : (t : List ℕ) → is_text t ≡ true → IsDoubled (flat_map text_character t)
text_doubled [] e = none
text_doubled (c ∷ t) e =
    let both = and_parts (is_character c) (is_text t) e in
    character_doubled c (flat_map text_character t) (c == 34) (c == 92 || (nat_lt c 32 || nat_lt 126 c)) both.0 refl (text_doubled t both.1)

-- a text has no newline
text_character_lacks : (c : ℕ) (q s : Bool) → is_character c ≡ true → (c == 92 || (nat_lt c 32 || nat_lt 126 c)) ≡ s → lacks 10 (cond q (34 ∷ 34 ∷ []) (cond s (92 ∷ 117 ∷ in_braces c) (c ∷ []))) ≡ true
text_character_lacks c true s e f = refl
text_character_lacks c false true e f = braces_lack 10 c (λ h. absurd (omega arith)) refl refl e
text_character_lacks c false false e f =
    let a : (c == 10) ≡ false = ne_eqb c 10 (λ i. let t : true ≡ false = ap (λ z. z == 92 || (nat_lt z 32 || nat_lt 126 z)) (sym i) ∙ f in cc) in
    rw a refl

pub text_lacks : (t : List ℕ) → is_text t ≡ true → lacks 10 (flat_map text_character t) ≡ true
text_lacks [] e = refl
text_lacks (c ∷ t) e =
    let both = and_parts (is_character c) (is_text t) e in
    lacks_append 10 (text_character c) (flat_map text_character t) (text_character_lacks c (c == 34) (c == 92 || (nat_lt c 32 || nat_lt 126 c)) both.0 refl) (text_lacks t both.1)

-- ---- written texts and names are read back

pub text_back : (t : List ℕ) → is_text t ≡ true → text_in (flat_map text_character t) ≡ t
unfolding text_in
text_back t e = text_again t e

pub label_back : (t : List ℕ) → is_text t ≡ true → label_in (flat_map label_character t) ≡ t
unfolding label_in
label_back t e = label_again t e
