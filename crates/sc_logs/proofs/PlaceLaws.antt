-- Laws of places in bytes that end with a newline.
use Rattle.std.proofs.Common.{◌≡◌, ◌+◌, ◌-◌, ◌*◌, ◌<◌, ◌≤◌, ◌^◌, ℕ, List, ◌∷◌, ◌++◌, take, drop, get_or, length, Bool, true, false, ◌&&◌, nat_lt, refl, sym, ap, ◌∙◌, subst, arith}
use Rattle.std.specs.Fmt.{decimal}
use Rattle.std.specs.Int.{IsInRange}
use Rattle.std.specs.Str.Parse.{AllDigits, digits_value}
use Rattle.std.proofs.lemmas.Bool.{eqb-true, ltb-true, ltb-false}
use Rattle.std.proofs.lemmas.Int.Digits.{digits_more}
use Rattle.std.proofs.lemmas.List.{drop-drop, drop_more, get_or-drop, length-drop}
use Rattle.std.proofs.lemmas.Str.{digit_value_digit}
use Rattle.sc_logs.specs.LineSteps.{ends_line}
use Rattle.sc_logs.proofs.NumberLaws.{from_small, from_more, from_read}
use Rattle.sc_footprint.specs.Written.{is_number}

-- another byte than a newline has one behind it
next_by : (bytes : List ℕ) (place : ℕ) (t : Bool) → nat_lt (place + 1) (length bytes) ≡ t → ends_line bytes ≡ true → place < length bytes → (get_or bytes place 0 ≡ 10 → ⊥) → place + 1 < length bytes
next_by bytes place true e ended h other = ltb-true (place + 1) (length bytes) e
next_by bytes place false e ended h other =
    let most = ltb-false (place + 1) (length bytes) e in
    let last : length bytes - 1 ≡ place = omega (arith, most) in
    absurd (other (ap (λ (i : ℕ). get_or bytes i 0) (sym last) ∙ eqb-true (get_or bytes (length bytes - 1) 0) 10 ended))

next_place : (bytes : List ℕ) (place : ℕ) → ends_line bytes ≡ true → place < length bytes → (get_or bytes place 0 ≡ 10 → ⊥) → place + 1 < length bytes
next_place bytes place ended h other = next_by bytes place (nat_lt (place + 1) (length bytes)) refl ended h other

-- ---- the byte at a place

pub byte_stands : (bytes : List ℕ) (place byte : ℕ) → place < length bytes → get_or bytes place 0 ≡ byte → drop place bytes ≡ byte ∷ drop (place + 1) bytes
byte_stands bytes place byte h e = drop_more bytes place 0 h ∙ ap (λ (b : ℕ). b ∷ drop (place + 1) bytes) e

pub byte_next : (bytes : List ℕ) (place byte : ℕ) → ends_line bytes ≡ true → place < length bytes → 10 < byte → get_or bytes place 0 ≡ byte → place + 1 < length bytes
byte_next bytes place byte ended h more e = next_place bytes place ended h (λ (q : get_or bytes place 0 ≡ 10). absurd (omega (arith, e, q)))

pub digit_next : (bytes : List ℕ) (place : ℕ) → ends_line bytes ≡ true → place < length bytes → IsInRange 48 57 (get_or bytes place 0) → place + 1 < length bytes
digit_next bytes place ended h range = next_place bytes place ended h (λ (q : get_or bytes place 0 ≡ 10). absurd (let low = range.0 in omega (arith, low, q)))

pub first_stands : (bytes : List ℕ) (place : ℕ) → place < length bytes → drop place bytes ≡ get_or bytes place 0 ∷ drop (place + 1) bytes
first_stands bytes place h = drop_more bytes place 0 h

pub first_next : (bytes : List ℕ) (place : ℕ) → ends_line bytes ≡ true → place < length bytes → 49 ≤ get_or bytes place 0 → place + 1 < length bytes
first_next bytes place ended h low = next_place bytes place ended h (λ (q : get_or bytes place 0 ≡ 10). absurd (omega (arith, q)))

pub newline_stands : (bytes : List ℕ) (place : ℕ) → place < length bytes → get_or bytes place 0 ≡ 10 → drop place bytes ≡ 10 ∷ drop (place + 1) bytes
newline_stands bytes place h e = byte_stands bytes place 10 h e

-- ---- digits from a place on

left_long : (bytes : List ℕ) (from i : ℕ) → from + i < length bytes → i < length (drop from bytes)
left_long bytes from i h = let long = length-drop from bytes in omega (arith, long)

pub place_small : (n b i most from : ℕ) (bytes : List ℕ) → n ≡ digits_value 10 (b ∷ take i (drop from bytes)) → 49 ≤ b → b ≤ 57 → AllDigits 10 (take i (drop from bytes))
    → from + i < length bytes → i < most → n < 10 ^ most
place_small n b i most from bytes e low high digits h few = from_small n b i most (drop from bytes) e low high digits (left_long bytes from i h) few

pub place_more : (n b d i from : ℕ) (bytes : List ℕ) → n ≡ digits_value 10 (b ∷ take i (drop from bytes)) → from + i < length bytes → IsInRange 48 57 (get_or bytes (from + i) 0)
    → d ≡ get_or bytes (from + i) 0 - 48 → n * 10 + d ≡ digits_value 10 (b ∷ take (i + 1) (drop from bytes))
place_more n b d i from bytes e h range is =
    let there = get_or-drop from bytes i 0 in
    let more = from_more n b i (drop from bytes) e (left_long bytes from i h) (subst (IsInRange 48 57) (sym there) range) in
    ap (λ (k : ℕ). n * 10 + k) (is ∙ ap (λ (k : ℕ). k - 48) (sym there)) ∙ more

pub place_digits : (i from : ℕ) (bytes : List ℕ) → from + i < length bytes → AllDigits 10 (take i (drop from bytes)) → IsInRange 48 57 (get_or bytes (from + i) 0)
    → AllDigits 10 (take (i + 1) (drop from bytes))
place_digits i from bytes h digits range =
    let there : IsInRange 48 57 (get_or (drop from bytes) i 0) = subst (IsInRange 48 57) (sym (get_or-drop from bytes i 0)) range in
    let digit = digit_value_digit (get_or (drop from bytes) i 0) there in
    let high = there.1 in
    digits_more 10 (drop from bytes) i (left_long bytes from i h) digits (omega (arith, digit, high))

pub place_read : (n b i from : ℕ) (bytes : List ℕ) → 49 ≤ b → b ≤ 57 → AllDigits 10 (take i (drop from bytes)) → n ≡ digits_value 10 (b ∷ take i (drop from bytes)) → from + i < length bytes → i < 18
    → (nat_lt 0 n && is_number n ≡ true) × (b ∷ drop from bytes ≡ decimal n ++ drop (from + i) bytes)
place_read n b i from bytes low high digits is h few =
    from_read n b i (drop from bytes) (drop (from + i) bytes) low high digits is (left_long bytes from i h) (omega arith) (sym (drop-drop i from bytes))
