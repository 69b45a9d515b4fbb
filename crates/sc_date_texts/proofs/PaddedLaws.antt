-- What `{:02}`, `{:03}` and `{:04}` write: so many digits.
use Rattle.std.proofs.Common.{◌≡◌, ℕ, ◌+◌, ◌/◌, ◌%◌, ◌<◌, ◌≤◌, List, [], ◌∷◌, ◌++◌, refl, arith, ap, ◌∙◌, false, ⊎_elim, Result, Ok, Err, IfOk}
use Rattle.std.specs.Fmt.{decimal, padded_integral, format_spec, char_count, styled_decimal}
use Rattle.std.proofs.lemmas.Fmt.{decimal_digit, decimal_step}
use Rattle.std.proofs.lemmas.Bool.{cases_lt}
use Rattle.sc_date_texts.specs.Written.{two_digits, three_digits, four_digits, date_text, moment_text}

same_two : (a b p q : ℕ) → a ≡ p → b ≡ q → a ∷ b ∷ [] ≡ p ∷ q ∷ []
same_two a b p q i j = cc

same_three : (a b c p q r : ℕ) → a ≡ p → b ≡ q → c ≡ r → a ∷ b ∷ c ∷ [] ≡ p ∷ q ∷ r ∷ []
same_three a b c p q r i j k = cc

same_four : (a b c d p q r s : ℕ) → a ≡ p → b ≡ q → c ≡ r → d ≡ s → a ∷ b ∷ c ∷ d ∷ [] ≡ p ∷ q ∷ r ∷ s ∷ []
same_four a b c d p q r s i j k l = cc

-- ---- the digits of a number

of_two : (n : ℕ) → 10 ≤ n → n < 100 → decimal n ≡ (48 + n / 10) ∷ (48 + n % 10) ∷ []
of_two n g h = rw (decimal_step n g (omega arith), decimal_digit (n / 10) (omega arith))

of_three : (n : ℕ) → 100 ≤ n → n < 1000 → decimal n ≡ (48 + n / 10 / 10) ∷ (48 + n / 10 % 10) ∷ (48 + n % 10) ∷ []
of_three n g h = rw (decimal_step n (omega arith) (omega arith), of_two (n / 10) (omega arith) (omega arith))

of_four : (n : ℕ) → 1000 ≤ n → n < 10000 → decimal n ≡ (48 + n / 10 / 10 / 10) ∷ (48 + n / 10 / 10 % 10) ∷ (48 + n / 10 % 10) ∷ (48 + n % 10) ∷ []
of_four n g h = rw (decimal_step n (omega arith) (omega arith), of_three (n / 10) (omega arith) (omega arith))

-- ---- zeros in front of them

pad_21 : (a : ℕ) → padded_integral (format_spec 32 0 4 2 18446744073709551615) false [] (a ∷ []) ≡ 48 ∷ a ∷ []
unfolding padded_integral char_count
pad_21 a = refl

pad_22 : (a b : ℕ) → padded_integral (format_spec 32 0 4 2 18446744073709551615) false [] (a ∷ b ∷ []) ≡ a ∷ b ∷ []
unfolding padded_integral char_count
pad_22 a b = refl

pad_31 : (a : ℕ) → padded_integral (format_spec 32 0 4 3 18446744073709551615) false [] (a ∷ []) ≡ 48 ∷ 48 ∷ a ∷ []
unfolding padded_integral char_count
pad_31 a = refl

pad_32 : (a b : ℕ) → padded_integral (format_spec 32 0 4 3 18446744073709551615) false [] (a ∷ b ∷ []) ≡ 48 ∷ a ∷ b ∷ []
unfolding padded_integral char_count
pad_32 a b = refl

pad_33 : (a b c : ℕ) → padded_integral (format_spec 32 0 4 3 18446744073709551615) false [] (a ∷ b ∷ c ∷ []) ≡ a ∷ b ∷ c ∷ []
unfolding padded_integral char_count
pad_33 a b c = refl

pad_41 : (a : ℕ) → padded_integral (format_spec 32 0 4 4 18446744073709551615) false [] (a ∷ []) ≡ 48 ∷ 48 ∷ 48 ∷ a ∷ []
unfolding padded_integral char_count
pad_41 a = refl

pad_42 : (a b : ℕ) → padded_integral (format_spec 32 0 4 4 18446744073709551615) false [] (a ∷ b ∷ []) ≡ 48 ∷ 48 ∷ a ∷ b ∷ []
unfolding padded_integral char_count
pad_42 a b = refl

pad_43 : (a b c : ℕ) → padded_integral (format_spec 32 0 4 4 18446744073709551615) false [] (a ∷ b ∷ c ∷ []) ≡ 48 ∷ a ∷ b ∷ c ∷ []
unfolding padded_integral char_count
pad_43 a b c = refl

pad_44 : (a b c d : ℕ) → padded_integral (format_spec 32 0 4 4 18446744073709551615) false [] (a ∷ b ∷ c ∷ d ∷ []) ≡ a ∷ b ∷ c ∷ d ∷ []
unfolding padded_integral char_count
pad_44 a b c d = refl

pub two_is : (n : ℕ) → n < 100 → styled_decimal (format_spec 32 0 4 2 18446744073709551615) n ≡ two_digits n
two_is n h = ⊎_elim
    (λ (l : n < 10). ap (padded_integral (format_spec 32 0 4 2 18446744073709551615) false []) (decimal_digit n l) ∙ pad_21 (48 + n) ∙ same_two _ _ _ _ (omega arith) (omega arith))
    (λ (g : 10 ≤ n). ap (padded_integral (format_spec 32 0 4 2 18446744073709551615) false []) (of_two n g h) ∙ pad_22 (48 + n / 10) (48 + n % 10))
    (cases_lt n 10)

pub three_is : (n : ℕ) → n < 1000 → styled_decimal (format_spec 32 0 4 3 18446744073709551615) n ≡ three_digits n
three_is n h = ⊎_elim
    (λ (l : n < 10). ap (padded_integral (format_spec 32 0 4 3 18446744073709551615) false []) (decimal_digit n l) ∙ pad_31 (48 + n) ∙ same_three _ _ _ _ _ _ (omega arith) (omega arith) (omega arith))
    (λ (g : 10 ≤ n). ⊎_elim
    (λ (l : n < 100). ap (padded_integral (format_spec 32 0 4 3 18446744073709551615) false []) (of_two n g l) ∙ pad_32 (48 + n / 10) (48 + n % 10) ∙ same_three _ _ _ _ _ _ (omega arith) (omega arith) (omega arith))
    (λ (k : 100 ≤ n). ap (padded_integral (format_spec 32 0 4 3 18446744073709551615) false []) (of_three n k h) ∙ pad_33 (48 + n / 10 / 10) (48 + n / 10 % 10) (48 + n % 10) ∙ same_three _ _ _ _ _ _ (omega arith) (omega arith) (omega arith))
    (cases_lt n 100))
    (cases_lt n 10)

pub four_is : (n : ℕ) → n < 10000 → styled_decimal (format_spec 32 0 4 4 18446744073709551615) n ≡ four_digits n
four_is n h = ⊎_elim
    (λ (l : n < 10). ap (padded_integral (format_spec 32 0 4 4 18446744073709551615) false []) (decimal_digit n l) ∙ pad_41 (48 + n) ∙ same_four _ _ _ _ _ _ _ _ (omega arith) (omega arith) (omega arith) (omega arith))
    (λ (g : 10 ≤ n). ⊎_elim
    (λ (l : n < 100). ap (padded_integral (format_spec 32 0 4 4 18446744073709551615) false []) (of_two n g l) ∙ pad_42 (48 + n / 10) (48 + n % 10) ∙ same_four _ _ _ _ _ _ _ _ (omega arith) (omega arith) (omega arith) (omega arith))
    (λ (k : 100 ≤ n). ⊎_elim
    (λ (l : n < 1000). ap (padded_integral (format_spec 32 0 4 4 18446744073709551615) false []) (of_three n k l) ∙ pad_43 (48 + n / 10 / 10) (48 + n / 10 % 10) (48 + n % 10) ∙ same_four _ _ _ _ _ _ _ _ (omega arith) (omega arith) (omega arith) (omega arith))
    (λ (m : 1000 ≤ n). ap (padded_integral (format_spec 32 0 4 4 18446744073709551615) false []) (of_four n m h) ∙ pad_44 (48 + n / 10 / 10 / 10) (48 + n / 10 / 10 % 10) (48 + n / 10 % 10) (48 + n % 10) ∙ same_four _ _ _ _ _ _ _ _ (omega arith) (omega arith) (omega arith) (omega arith))
    (cases_lt n 1000))
    (cases_lt n 100))
    (cases_lt n 10)

-- what the holes write together
module _ {S E F : Type 0} (styled : F → ℕ → List ℕ) (f4 f2 f3 : F) (four : (k : ℕ) → k < 10000 → styled f4 k ≡ four_digits k)
    (two : (k : ℕ) → k < 100 → styled f2 k ≡ two_digits k) (three : (k : ℕ) → k < 1000 → styled f3 k ≡ three_digits k) (bytes : S → List ℕ) where
  pub date_is : (r : Result S E) (shown year month day : ℕ) (s4 a b : F) → shown ≡ year → s4 ≡ f4 → a ≡ f2 → b ≡ f2 → year < 10000 → month < 100 → day < 100
      → IfOk r (λ s. bytes s ≡ styled s4 shown ++ (45 ∷ (styled a month ++ (45 ∷ styled b day))))
      → IfOk r (λ s. bytes s ≡ date_text year month day)
  date_is (Err x) shown year month day s4 a b q p4 pa pb ly lm ld h = tt
  date_is (Ok x) shown year month day s4 a b q p4 pa pb ly lm ld h =
      let y = (λ i. styled (p4 i) (q i)) ∙ four year ly in
      let m = ap (λ s. styled s month) pa ∙ two month lm in
      let d = ap (λ s. styled s day) pb ∙ two day ld in
      h ∙ (λ i. y i ++ (45 ∷ (m i ++ (45 ∷ d i))))

  pub moment_is : (r : Result S E) (hour minute second millisecond time : ℕ) (c d e s3 : F) → c ≡ f2 → d ≡ f2 → e ≡ f2 → s3 ≡ f3
      → time < 86400000 → hour ≡ time / 3600000 → minute ≡ time / 60000 % 60 → second ≡ time / 1000 % 60 → millisecond ≡ time % 1000
      → IfOk r (λ s. bytes s ≡ 84 ∷ (styled c hour ++ (58 ∷ (styled d minute ++ (58 ∷ (styled e second ++ (46 ∷ (styled s3 millisecond ++ (90 ∷ [])))))))))
      → IfOk r (λ s. bytes s ≡ moment_text time)
  moment_is (Err x) hour minute second millisecond time c d e s3 pc pd pe p3 lt eh em es ef h = tt
  moment_is (Ok x) hour minute second millisecond time c d e s3 pc pd pe p3 lt eh em es ef h =
      let hh = (λ i. styled (pc i) (eh i)) ∙ two (time / 3600000) (omega arith) in
      let mm = (λ i. styled (pd i) (em i)) ∙ two (time / 60000 % 60) (omega arith) in
      let ss = (λ i. styled (pe i) (es i)) ∙ two (time / 1000 % 60) (omega arith) in
      let ff = (λ i. styled (p3 i) (ef i)) ∙ three (time % 1000) (omega arith) in
      h ∙ (λ i. 84 ∷ (hh i ++ (58 ∷ (mm i ++ (58 ∷ (ss i ++ (46 ∷ (ff i ++ (90 ∷ [])))))))))
