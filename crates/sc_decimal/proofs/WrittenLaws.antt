-- The written text: its four digits, and that it stands for the number.
use Rattle.std.proofs.Common.{◌≡◌, ℕ, ◌+◌, ◌-◌, ◌/◌, ◌%◌, ◌^◌, ◌<◌, ◌≤◌, List, [], ◌∷◌, ◌++◌, refl, subst, arith, lit<, lit≤, ℤ, pos, negsuc, ap, sym, ◌∙◌, suc, FitsSigned, w64, false, ⊎_elim, Result, Ok, Err, IfOk}
use Rattle.std.specs.Str.Parse.{IsNumeral, digits_value}
use Rattle.std.specs.Char.{digit_value}
use Rattle.std.specs.Fmt.{decimal, padded_integral, format_spec, char_count}
use Rattle.std.proofs.lemmas.Fmt.{decimal_digit, decimal_step, decimal_is_IsNumeral}
use Rattle.std.proofs.lemmas.Str.{digit_value_digit}
use Rattle.std.proofs.lemmas.Bool.{cases_lt}
use Rattle.sc_decimal.specs.DecimalText.{IsMagnitude, IsDecimalText, plain, minus, four_digits, magnitude_text, decimal_text}

-- what `{:04}` writes, by how many digits the number has
padded_one : (a : ℕ) → padded_integral (format_spec 32 0 4 4 (2 ^ 64 - 1)) false [] (a ∷ []) ≡ 48 ∷ 48 ∷ 48 ∷ a ∷ []
unfolding padded_integral char_count
padded_one a = refl

padded_two : (a b : ℕ) → padded_integral (format_spec 32 0 4 4 (2 ^ 64 - 1)) false [] (a ∷ b ∷ []) ≡ 48 ∷ 48 ∷ a ∷ b ∷ []
unfolding padded_integral char_count
padded_two a b = refl

padded_three : (a b c : ℕ) → padded_integral (format_spec 32 0 4 4 (2 ^ 64 - 1)) false [] (a ∷ b ∷ c ∷ []) ≡ 48 ∷ a ∷ b ∷ c ∷ []
unfolding padded_integral char_count
padded_three a b c = refl

padded_four : (a b c d : ℕ) → padded_integral (format_spec 32 0 4 4 (2 ^ 64 - 1)) false [] (a ∷ b ∷ c ∷ d ∷ []) ≡ a ∷ b ∷ c ∷ d ∷ []
unfolding padded_integral char_count
padded_four a b c d = refl

digit_is : (d : ℕ) → d < 10 → digit_value (48 + d) ≡ d
digit_is d h = omega (arith, digit_value_digit (48 + d) (omega arith, omega arith))

same_four : (a b c d p q r s : ℕ) → a ≡ p → b ≡ q → c ≡ r → d ≡ s → a ∷ b ∷ c ∷ d ∷ [] ≡ p ∷ q ∷ r ∷ s ∷ []
same_four a b c d p q r s i j k l = cc

below_ten : (n : ℕ) → n < 10 → padded_integral (format_spec 32 0 4 4 (2 ^ 64 - 1)) false [] (decimal n) ≡ four_digits n
below_ten n h = rw (decimal_digit n h, padded_one (48 + n)) (same_four _ _ _ _ _ _ _ _ (omega arith) (omega arith) (omega arith) (omega arith))

two_digits : (n : ℕ) → 10 ≤ n → n < 100 → decimal n ≡ (48 + n / 10) ∷ (48 + n % 10) ∷ []
two_digits n g h = rw (decimal_step n g (omega arith), decimal_digit (n / 10) (omega arith))

three_digits : (n : ℕ) → 100 ≤ n → n < 1000 → decimal n ≡ (48 + n / 10 / 10) ∷ (48 + n / 10 % 10) ∷ (48 + n % 10) ∷ []
three_digits n g h = rw (decimal_step n (omega arith) (omega arith), two_digits (n / 10) (omega arith) (omega arith))

below_hundred : (n : ℕ) → 10 ≤ n → n < 100 → padded_integral (format_spec 32 0 4 4 (2 ^ 64 - 1)) false [] (decimal n) ≡ four_digits n
below_hundred n g h = rw (two_digits n g h, padded_two (48 + n / 10) (48 + n % 10)) (same_four _ _ _ _ _ _ _ _ (omega arith) (omega arith) (omega arith) (omega arith))

below_thousand : (n : ℕ) → 100 ≤ n → n < 1000 → padded_integral (format_spec 32 0 4 4 (2 ^ 64 - 1)) false [] (decimal n) ≡ four_digits n
below_thousand n g h = rw (three_digits n g h, padded_three (48 + n / 10 / 10) (48 + n / 10 % 10) (48 + n % 10)) (same_four _ _ _ _ _ _ _ _ (omega arith) (omega arith) (omega arith) (omega arith))

from_thousand : (n : ℕ) → 1000 ≤ n → n < 10000 → padded_integral (format_spec 32 0 4 4 (2 ^ 64 - 1)) false [] (decimal n) ≡ four_digits n
from_thousand n g h = rw (decimal_step n (omega arith) (omega arith), three_digits (n / 10) (omega arith) (omega arith), padded_four (48 + n / 10 / 10 / 10) (48 + n / 10 / 10 % 10) (48 + n / 10 % 10) (48 + n % 10)) (same_four _ _ _ _ _ _ _ _ (omega arith) (omega arith) (omega arith) (omega arith))

-- `{:04}` writes the four digits
pub padded_is : (n : ℕ) → n < 10000 → padded_integral (format_spec 32 0 4 4 (2 ^ 64 - 1)) false [] (decimal n) ≡ four_digits n
padded_is n h =
    ⊎_elim (below_ten n) (λ a. ⊎_elim (below_hundred n a) (λ b. ⊎_elim (below_thousand n b) (λ d. from_thousand n d h) (cases_lt n 1000)) (cases_lt n 100)) (cases_lt n 10)

-- the four digits are a numeral for the number
four-value : (n : ℕ) → n < 10000 → IsNumeral 10 (four_digits n) × (digits_value 10 (four_digits n) ≡ n)
four-value n h =
    let a = digit_is (n / 1000) (omega arith) in
    let b = digit_is (n / 100 % 10) (omega arith) in
    let d = digit_is (n / 10 % 10) (omega arith) in
    let e = digit_is (n % 10) (omega arith) in
    ((lit< tt, (omega arith, (omega arith, (omega arith, (omega arith, tt))))), omega arith)

-- what is written of a magnitude reads as it
magnitude_reads : (n : ℕ) → n < 2 ^ 64 → IsMagnitude (magnitude_text n) n
magnitude_reads n h =
    let w = decimal_is_IsNumeral (n / 10000) (omega arith) in
    let f = four-value (n % 10000) (omega arith) in
    record {
      whole = decimal (n / 10000);
      fraction = four_digits (n % 10000);
      parts = refl;
      whole_digits = w.0;
      fraction_digits = f.0;
      at_most_four = lit≤ tt;
      value = rw (w.1, f.1) (omega arith);
    }

-- what is written of a number reads as it
pub text_reads : (z : ℤ) → FitsSigned w64 z → IsDecimalText (decimal_text z) z
text_reads (pos n) h = record { signed = plain (magnitude_reads n (let f = h.sfits in omega arith)) refl; in_range = h }
text_reads (negsuc n) h = record { signed = minus refl (magnitude_reads (suc n) (let f = h.sfits in omega arith)) refl; in_range = h }

-- a hole that writes the four digits makes the whole text
pub written_is : {S E F : Type 0} (bytes : S → List ℕ) (r : Result S E) (sign : List ℕ) (n : ℕ) (styled : F → ℕ → List ℕ) (spec four : F) → spec ≡ four → ((k : ℕ) → k < 10000 → styled four k ≡ four_digits k)
    → IfOk r (λ s. bytes s ≡ sign ++ (decimal (n / 10000) ++ (46 ∷ styled spec (n % 10000)))) → IfOk r (λ s. bytes s ≡ sign ++ magnitude_text n)
written_is bytes (Err e) sign n styled spec four is writes h = tt
written_is bytes (Ok s) sign n styled spec four is writes h =
    h ∙ ap (λ t. sign ++ (decimal (n / 10000) ++ (46 ∷ t))) (ap (λ f. styled f (n % 10000)) is ∙ writes (n % 10000) (omega arith))

-- a text that is written reads as its number
pub reads_back : {S E : Type 0} (bytes : S → List ℕ) (r : Result S E) (z : ℤ) → FitsSigned w64 z → IfOk r (λ s. bytes s ≡ decimal_text z) → IfOk r (λ s. IsDecimalText (bytes s) z)
reads_back bytes (Err e) z fits h = tt
reads_back bytes (Ok s) z fits h = let P : List ℕ → Type 0 = λ t. IsDecimalText t z in subst P (sym h) (text_reads z fits)
