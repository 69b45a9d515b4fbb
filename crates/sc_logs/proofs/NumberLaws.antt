-- Laws of numbers and their digits.
use Rattle.std.proofs.Common.{◌≡◌, ◌+◌, ◌-◌, ◌*◌, ◌<◌, ◌≤◌, ◌==◌, ◌^◌, ℕ, zero, suc, List, [], ◌∷◌, ◌++◌, take, drop, get_or, length, Bool, true, false, not, cond, ◌&&◌, ◌||◌, nat_lt, nat_le, ⊎_elim, Option, Some, None, MatchOption, refl, sym, ap, ◌∙◌, subst, arith}
use Rattle.std.specs.Char.{digit_value}
use Rattle.std.specs.Fmt.{decimal}
use Rattle.std.specs.Int.{IsInRange}
use Rattle.std.specs.Str.Parse.{AllDigits, digits_value}
use Rattle.std.proofs.lemmas.Bool.{and_parts, and_from, or_cases, or_left, or_right, ltb-true, ltb-false, lt-ltb, leb-true, le-leb, eq-eqb, eqb-true, ne_eqb, true≢false}
use Rattle.std.proofs.lemmas.Fmt.{decimal-digits_value, decimal_is_IsNumeral, decimal_digit, decimal_nonempty, first_decimal, length-decimal-le}
use Rattle.std.proofs.lemmas.Int.Digits.{digits_value_more}
use Rattle.std.proofs.lemmas.List.{length-take-le, take-append-drop}
use Rattle.std.proofs.lemmas.Str.{digit_value_digit}
use Rattle.std.proofs.lemmas.Str.Parse.{IsNumeralModel, digits_value_short, digit_from_value}
use Rattle.sc_logs.specs.LineSteps.{begins_with, has_number_form}
use Rattle.sc_logs.specs.Readings.{Reads}
use Rattle.sc_footprint.specs.Written.{is_number}

pub number_small : (n : ℕ) → is_number n ≡ true → n < 2 ^ 64
number_small n e = let small : n < 10 ^ 18 = ltb-true n (10 ^ 18) e in omega arith

number_digits : (n : ℕ) → is_number n ≡ true → AllDigits 10 (decimal n)
number_digits n e = (decimal_is_IsNumeral n (number_small n e)).0.1

-- ---- the first digit

digit_at_below : (b x : ℕ) (t : Bool) → nat_lt b 48 ≡ t → cond t 36 x < 10 → 48 ≤ b
digit_at_below b x true e h = absurd (omega arith)
digit_at_below b x false e h = ltb-false b 48 e

pub digit_at_least : (b : ℕ) → digit_value b < 10 → 48 ≤ b
digit_at_least b h = digit_at_below b _ (nat_lt b 48) refl h

digits_begin : (bs rest : List ℕ) (b : ℕ) → bs ≡ b ∷ rest → AllDigits 10 bs → digit_value b < 10
digits_begin [] rest b e h = absurd cc
digits_begin (c ∷ bs) rest b e h = let same : c ≡ b = cc in subst (λ (x : ℕ). digit_value x < 10) same h.0

-- a number's text begins with a digit
pub decimal_begins : (n : ℕ) (rest : List ℕ) (b : ℕ) → is_number n ≡ true → decimal n ≡ b ∷ rest → 48 ≤ b
decimal_begins n rest b e h = digit_at_least b (digits_begin (decimal n) rest b h (number_digits n e))

-- ---- the digits of a word

-- all that is told of digits is that they are digits
model : IsNumeralModel (AllDigits 10) (digits_value 10)
model = record { to = λ ds h. h; from = λ ds h. h; same = λ ds h. refl }

-- the byte at a place among digits
pub digit_at : (bs : List ℕ) (i : ℕ) → i < length bs → AllDigits 10 bs → IsInRange 48 57 (get_or bs i 0)
digit_at [] i h digits = absurd (omega arith)
digit_at (b ∷ bs) zero h digits = digit_from_value b digits.0
digit_at (b ∷ bs) (suc i) h digits = digit_at bs i (omega arith) digits.1

-- fewer than 18 digits leave room for a further one
pub value_small : (n i : ℕ) (bs : List ℕ) → n ≡ digits_value 10 (take i bs) → AllDigits 10 (take i bs) → i < length bs → i < 18 → n < 10 ^ 17
value_small n i bs e digits h few =
    let long = length-take-le i bs (omega arith) in
    subst (λ (m : ℕ). m < 10 ^ 17) (sym e) (digits_value_short model (take i bs) 17 digits (omega (arith, long)))

pub value_more : (n i : ℕ) (bs : List ℕ) → n ≡ digits_value 10 (take i bs) → i < length bs → IsInRange 48 57 (get_or bs i 0) → n * 10 + (get_or bs i 0 - 48) ≡ digits_value 10 (take (i + 1) bs)
value_more n i bs e h range =
    let digit = digit_value_digit (get_or bs i 0) range in
    let more = digits_value_more 10 bs i h in
    omega (arith, digit, more)

-- ---- the form of a number's text

not_padded : (w : List ℕ) → 48 < get_or w 0 0 → not (begins_with 48 w) ≡ true
not_padded [] h = refl
not_padded (b ∷ w) h = ap not (ne_eqb b 48 (λ (e : b ≡ 48). absurd (omega arith)))

one_or_not_padded : (n : ℕ) (t : Bool) → nat_lt 0 n ≡ t → n < 2 ^ 64 → (length (decimal n) == 1) || not (begins_with 48 (decimal n)) ≡ true
one_or_not_padded n true e h = or_right _ _ (not_padded (decimal n) (first_decimal n (ltb-true 0 n e) h))
one_or_not_padded n false e h =
    let none : n ≡ 0 = let most = ltb-false 0 n e in omega (arith, most) in
    let one : decimal n ≡ 48 ∷ [] = ap decimal none ∙ decimal_digit 0 (omega arith) in
    or_left _ _ (ap (λ (w : List ℕ). length w == 1) one)

number_form : (n : ℕ) → is_number n ≡ true → has_number_form (decimal n) ≡ true
number_form n e =
    let small = number_small n e in
    let few = length-decimal-le 18 n (omega arith) (ltb-true n (10 ^ 18) e) small in
    and_from _ _ (and_from _ _ (lt-ltb 0 (length (decimal n)) (decimal_nonempty n small)) (le-leb (length (decimal n)) 18 few)) (one_or_not_padded n (nat_lt 0 n) refl small)

-- a word of another form is no number
pub form_none : (word : List ℕ) → has_number_form word ≡ false → Reads is_number decimal word None
form_none word f n t e = true≢false (sym (subst (λ (w : List ℕ). has_number_form w ≡ true) e (number_form n t)) ∙ f)

-- nor is one with another byte
pub digits_none : (word : List ℕ) → ¬ AllDigits 10 word → Reads is_number decimal word None
digits_none word none n t e = none (subst (AllDigits 10) e (number_digits n t))

padded_one : (w : List ℕ) → not (begins_with 48 w) ≡ true → 0 < length w → get_or w 0 0 ≡ 48 → length w ≡ 1
padded_one [] e h is = absurd (omega arith)
padded_one (b ∷ w) e h is = absurd (true≢false (sym e ∙ ap not (eq-eqb b 48 is)))

-- digits of this form are a number's text
pub number_read : (word : List ℕ) (n : ℕ) → has_number_form word ≡ true → AllDigits 10 word → n ≡ digits_value 10 word → (is_number n ≡ true) × (decimal n ≡ word)
number_read word n form digits is =
    let parts = and_parts (nat_lt 0 (length word) && nat_le (length word) 18) _ form in
    let long = and_parts (nat_lt 0 (length word)) (nat_le (length word) 18) parts.0 in
    let some : 0 < length word = ltb-true 0 (length word) long.0 in
    let small : digits_value 10 word < 10 ^ 18 = digits_value_short model word 18 digits (leb-true (length word) 18 long.1) in
    let padded : get_or word 0 0 ≡ 48 → length word ≡ 1
    = λ (e : get_or word 0 0 ≡ 48). ⊎_elim (λ (one : (length word == 1) ≡ true). eqb-true (length word) 1 one) (λ (no : not (begins_with 48 word) ≡ true). padded_one word no some e) (or_cases (length word == 1) _ parts.1) in
    (ap is_number is ∙ lt-ltb _ (10 ^ 18) small, ap decimal is ∙ decimal-digits_value model word digits some padded (omega arith))

pub value_reads : (word : List ℕ) (o : Option ℕ) → true ≡ has_number_form word → MatchOption o (¬ AllDigits 10 word) (λ n. AllDigits 10 word × (n ≡ digits_value 10 word)) → Reads is_number decimal word o
value_reads word (Some n) form read = number_read word n (sym form) read.0 read.1
value_reads word None form none = digits_none word none

-- ---- a first digit other than `0`, and the digits after it

pub positive : (n : ℕ) → (n ≡ 0 → ⊥) → nat_lt 0 n ≡ true
positive zero h = absurd (h refl)
positive (suc n) h = lt-ltb 0 (suc n) (omega arith)

first_digits : (b : ℕ) (bs : List ℕ) → 49 ≤ b → b ≤ 57 → AllDigits 10 bs → AllDigits 10 (b ∷ bs)
first_digits b bs low high digits =
    let least : 48 ≤ b = omega arith in
    let value = digit_value_digit b (least, high) in
    let digit : digit_value b < 10 = omega (arith, value) in
    (digit, digits)

first_form : (b : ℕ) (bs : List ℕ) → 49 ≤ b → suc (length bs) ≤ 18 → has_number_form (b ∷ bs) ≡ true
first_form b bs low few =
    let more : 48 < b = omega arith in
    and_from (nat_lt 0 (suc (length bs)) && nat_le (suc (length bs)) 18) ((suc (length bs) == 1) || not (begins_with 48 (b ∷ bs)))
    (and_from (nat_lt 0 (suc (length bs))) (nat_le (suc (length bs)) 18) (lt-ltb 0 (suc (length bs)) (omega arith)) (le-leb (suc (length bs)) 18 few))
    (or_right (suc (length bs) == 1) (not (begins_with 48 (b ∷ bs))) (not_padded (b ∷ bs) more))

-- a text that begins with another digit than `0` isn't that of 0
some_number : (n b : ℕ) (bs : List ℕ) → decimal n ≡ b ∷ bs → 49 ≤ b → n ≡ 0 → ⊥
some_number n b bs e low none =
    let texts : b ∷ bs ≡ 48 ∷ [] = sym e ∙ (ap decimal none ∙ decimal_digit 0 (omega arith)) in
    let same : b ≡ 48 = ap (λ (w : List ℕ). get_or w 0 0) texts in
    absurd (omega (arith, same))

-- the value of a first digit and fewer further ones than a number
pub from_small : (n b i most : ℕ) (bs : List ℕ) → n ≡ digits_value 10 (b ∷ take i bs) → 49 ≤ b → b ≤ 57 → AllDigits 10 (take i bs) → i < length bs → i < most → n < 10 ^ most
from_small n b i most bs e low high digits h few =
    let long = length-take-le i bs (omega arith) in
    let size : suc (length (take i bs)) ≤ most = omega (arith, long) in
    subst (λ (m : ℕ). m < 10 ^ most) (sym e) (digits_value_short model (b ∷ take i bs) most (first_digits b (take i bs) low high digits) size)

pub from_more : (n b i : ℕ) (bs : List ℕ) → n ≡ digits_value 10 (b ∷ take i bs) → i < length bs → IsInRange 48 57 (get_or bs i 0)
    → n * 10 + (get_or bs i 0 - 48) ≡ digits_value 10 (b ∷ take (i + 1) bs)
from_more n b i bs e h range =
    let later : suc i < suc (length bs) = omega arith in
    let one : suc i + 1 ≡ suc (i + 1) = omega arith in
    subst (λ (k : ℕ). n * 10 + (get_or bs i 0 - 48) ≡ digits_value 10 (take k (b ∷ bs))) one (value_more n (suc i) (b ∷ bs) e later range)

-- they are a number's text
pub from_read : (n b i : ℕ) (bs rest : List ℕ) → 49 ≤ b → b ≤ 57 → AllDigits 10 (take i bs) → n ≡ digits_value 10 (b ∷ take i bs) → i < length bs → i ≤ 17 → rest ≡ drop i bs
    → (nat_lt 0 n && is_number n ≡ true) × (b ∷ bs ≡ decimal n ++ rest)
from_read n b i bs rest low high digits is h few back =
    let long = length-take-le i bs (omega arith) in
    let size : suc (length (take i bs)) ≤ 18 = omega (arith, long) in
    let read = number_read (b ∷ take i bs) n (first_form b (take i bs) low size) (first_digits b (take i bs) low high digits) is in (
      and_from (nat_lt 0 n) (is_number n) (positive n (some_number n b (take i bs) read.1 low)) read.0,
      ap (λ (w : List ℕ). b ∷ w) (sym (take-append-drop i bs)) ∙ (ap (λ (w : List ℕ). w ++ drop i bs) (sym read.1) ∙ ap (λ (w : List ℕ). decimal n ++ w) (sym back)),
    )
