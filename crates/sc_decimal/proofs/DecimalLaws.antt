-- A text stands for one number at most, and the point that is found first is the one between its parts.
use Rattle.std.proofs.Common.{◌≡◌, ℕ, ◌+◌, ◌-◌, ◌*◌, ◌^◌, ◌<◌, ◌≤◌, ◌≢◌, List, [], ◌∷◌, ◌++◌, length, get_or, Option, Some, None, refl, arith, lit<, ℤ, pos, neg_ℤ, ◌+ℤ◌, ◌-ℤ◌, zero, suc, FitsSigned, w64, ap, sym, ◌∙◌, Bor, subst}
use Rattle.std.proofs.lemmas.Str.Pattern.{IsSplitOnceResult, split_after}
use Rattle.std.proofs.lemmas.Str.Parse.{digit_at}
use Rattle.std.proofs.lemmas.Int.Digits.{digits_value-lt}
use Rattle.std.specs.Option.{SomeIff, IfSome, IfNone}
use Rattle.std.specs.Str.Parse.{IsNumeral, AllDigits, digits_value}
use Rattle.std.proofs.lemmas.Int.{ints}
use Rattle.sc_decimal.specs.DecimalText.{plain, minus, IsMagnitude, IsSigned, IsDecimalText}

-- digits lack a point
digits_lack : (ds : List ℕ) → AllDigits 10 ds → (i : ℕ) → i < length ds → get_or ds i 0 ≢ 46
digits_lack ds all i l = let r = digit_at ds i all l in omega arith

-- four digits at most are below 10000 ten-thousandths
pub fraction-lt : (ds : List ℕ) → AllDigits 10 ds → length ds ≤ 4 → digits_value 10 ds * 10 ^ (4 - length ds) < 10000
fraction-lt [] all short = lit< tt
fraction-lt (a ∷ []) all short = let h = digits_value-lt 10 (a ∷ []) all in omega arith
fraction-lt (a ∷ b ∷ []) all short = let h = digits_value-lt 10 (a ∷ b ∷ []) all in omega arith
fraction-lt (a ∷ b ∷ c ∷ []) all short = let h = digits_value-lt 10 (a ∷ b ∷ c ∷ []) all in omega arith
fraction-lt (a ∷ b ∷ c ∷ d ∷ []) all short = let h = digits_value-lt 10 (a ∷ b ∷ c ∷ d ∷ []) all in omega arith
fraction-lt (a ∷ b ∷ c ∷ d ∷ e ∷ ds) all short = absurd (omega arith)

pub number-lt : (ds : List ℕ) → AllDigits 10 ds → length ds ≤ 4 → digits_value 10 ds < 10000
number-lt [] all short = lit< tt
number-lt (a ∷ []) all short = let h = digits_value-lt 10 (a ∷ []) all in omega arith
number-lt (a ∷ b ∷ []) all short = let h = digits_value-lt 10 (a ∷ b ∷ []) all in omega arith
number-lt (a ∷ b ∷ c ∷ []) all short = let h = digits_value-lt 10 (a ∷ b ∷ c ∷ []) all in omega arith
number-lt (a ∷ b ∷ c ∷ d ∷ []) all short = let h = digits_value-lt 10 (a ∷ b ∷ c ∷ d ∷ []) all in omega arith
number-lt (a ∷ b ∷ c ∷ d ∷ e ∷ ds) all short = absurd (omega arith)

-- the digits before and behind the point make so many ten-thousandths
pub record IsSum (whole fraction : List ℕ) (n : ℕ) : Type 0 where
  pub whole_digits : IsNumeral 10 whole
  pub fraction_digits : IsNumeral 10 fraction
  pub at_most_four : length fraction ≤ 4
  pub value : n ≡ digits_value 10 whole * 10000 + digits_value 10 fraction * 10 ^ (4 - length fraction)

-- the parts that a split at the first point gives are the parts of the number
pub sum_of_parts : (text : List ℕ) (x : Bor (List ℕ) × Bor (List ℕ)) → IsSplitOnceResult 46 text (Some x) → (n : ℕ) → IsMagnitude text n → IsSum x.0.now x.1.now n
sum_of_parts text x h n m =
    let same = split_after 46 text m.whole m.fraction (Some x) h (lit< tt) m.parts (digits_lack m.whole m.whole_digits.1) in
    rw (same.0, same.1) (record { whole_digits = m.whole_digits; fraction_digits = m.fraction_digits; at_most_four = m.at_most_four; value = m.value })

-- where no point is found, there is no number
pub no_point : (text : List ℕ) → IsSplitOnceResult 46 text None → (n : ℕ) → IsMagnitude text n → ⊥
no_point text h n m = split_after 46 text m.whole m.fraction None h (lit< tt) m.parts (digits_lack m.whole m.whole_digits.1)

-- at a `None` the premise of the answer fails
pub none_from_some_iff : (r : Option ℕ) (P : Type 0) (v : ℕ) (Q : Type 0) → SomeIff r P v → ((P → ⊥) → Q) → IfNone r Q
none_from_some_iff None P v Q h q = q h
none_from_some_iff (Some x) P v Q h q = tt

-- digits before a point are told by the point
same_parts : (v w f g : List ℕ) → AllDigits 10 v → AllDigits 10 w → v ++ (46 ∷ f) ≡ w ++ (46 ∷ g) → (v ≡ w) × (f ≡ g)
same_parts [] [] f g p q e = (refl, cc)
same_parts [] (b ∷ w) f g p q e = let h : 46 ≡ b = cc in let d = digits_lack (b ∷ w) q 0 (omega arith) in absurd (d (sym h))
same_parts (a ∷ v) [] f g p q e = let h : a ≡ 46 = cc in let d = digits_lack (a ∷ v) p 0 (omega arith) in absurd (d h)
same_parts (a ∷ v) (b ∷ w) f g p q e =
    let h : a ≡ b = cc in
    let i = same_parts v w f g p.1 q.1 (cc) in
    (cc, i.1)

-- a text without a sign stands for one number at most
pub magnitude_only : (text : List ℕ) (m n : ℕ) → IsMagnitude text m → IsMagnitude text n → m ≡ n
magnitude_only text m n x y =
    let e : x.whole ++ (46 ∷ x.fraction) ≡ y.whole ++ (46 ∷ y.fraction) = sym x.parts ∙ y.parts in
    let i = same_parts x.whole y.whole x.fraction y.fraction x.whole_digits.1 y.whole_digits.1 e in
    let same : (v w f g : List ℕ) → v ≡ w → f ≡ g → digits_value 10 v * 10000 + digits_value 10 f * 10 ^ (4 - length f) ≡ digits_value 10 w * 10000 + digits_value 10 g * 10 ^ (4 - length g) = λ v w f g p q. cc in
    x.value ∙ (same _ _ _ _ i.0 i.1 ∙ sym y.value)

-- it begins with no minus
pub no_minus : (text rest : List ℕ) (n : ℕ) → text ≡ 45 ∷ rest → IsMagnitude text n → ⊥
no_minus text rest n e x = first x.whole x.fraction rest x.whole_digits (sym x.parts ∙ e)
  where
    first : (w f rest : List ℕ) → IsNumeral 10 w → w ++ (46 ∷ f) ≡ 45 ∷ rest → ⊥
    first [] f rest h e = omega arith
    first (a ∷ w) f rest h e = let c : a ≡ 45 = cc in let r = digit_at (a ∷ w) 0 h.1 (omega arith) in omega arith

-- behind a minus stands a magnitude
behind_minus : (text rest : List ℕ) (z : ℤ) → text ≡ 45 ∷ rest → IsSigned text z → (n : ℕ) × IsMagnitude rest n × (z ≡ neg_ℤ (pos n))
behind_minus text rest z e (plain {n = n} x p) = absurd (no_minus text rest n e x)
behind_minus text rest z e (minus {rest = other} {n = n} p x q) =
    let same : other ≡ rest = cc in
    let P : List ℕ → Type 0 = λ l. IsMagnitude l n in
    (n, subst P same x, q)

-- and where there is no minus, the text is one itself
without_minus : (text : List ℕ) (z : ℤ) → ((rest : List ℕ) → text ≢ 45 ∷ rest) → IsSigned text z → (n : ℕ) × IsMagnitude text n × (z ≡ pos n)
without_minus text z none (plain {n = n} x p) = (n, x, p)
without_minus text z none (minus {rest = other} p x q) = absurd (none other p)

neg_is : (n : ℕ) → pos 0 -ℤ pos n ≡ neg_ℤ (pos n)
neg_is n = omega (arith, ints)

plus_is : (n : ℕ) → pos 0 +ℤ pos n ≡ pos n
plus_is n = omega (arith, ints)

neg-le : (n : ℕ) → FitsSigned w64 (neg_ℤ (pos n)) → n < 2 ^ 64
neg-le zero h = omega arith
neg-le (suc n) h = let f = h.sfits in omega arith

-- a text with a minus whose rest is no magnitude below 2 ^ 64 is no decimal
pub minus_none : (text rest : List ℕ) → text ≡ 45 ∷ rest → ((n : ℕ) → n < 2 ^ 64 → IsMagnitude rest n → ⊥) → (z : ℤ) → IsDecimalText text z → ⊥
minus_none text rest e none z d =
    let b = behind_minus text rest z e d.signed in
    let P : ℤ → Type 0 = λ y. FitsSigned w64 y in
    none b.0 (neg-le b.0 (subst P b.2 d.in_range)) b.1

pub plain_none : (text : List ℕ) → ((rest : List ℕ) → text ≢ 45 ∷ rest) → ((n : ℕ) → n < 2 ^ 64 → IsMagnitude text n → ⊥) → (z : ℤ) → IsDecimalText text z → ⊥
plain_none text e none z d =
    let b = without_minus text z e d.signed in
    let P : ℤ → Type 0 = λ y. FitsSigned w64 y in
    let f = subst P b.2 d.in_range in
    none b.0 (let g = f.sfits in omega arith) b.1

-- a text with a minus and a magnitude stands for that number below 0, if it is in range
pub minus_some : (text rest : List ℕ) (n : ℕ) (r : Option ℤ) → text ≡ 45 ∷ rest → IsMagnitude rest n → SomeIff r (FitsSigned w64 (pos 0 -ℤ pos n)) (pos 0 -ℤ pos n) → IfSome r (λ z. IsDecimalText text z) × IfNone r ((z : ℤ) → IsDecimalText text z → ⊥)
minus_some text rest n None e x h = (
  tt,
  λ z d.
      let b = behind_minus text rest z e d.signed in
      let same : b.0 ≡ n = magnitude_only rest b.0 n b.1 x in
      let P : ℤ → Type 0 = λ y. FitsSigned w64 y in
      h (subst P (b.2 ∙ (ap (λ k. neg_ℤ (pos k)) same ∙ sym (neg_is n))) d.in_range),
)
minus_some text rest n (Some z) e x h = (
  record {
    signed = minus e x (h.1 ∙ neg_is n);
    in_range = let P : ℤ → Type 0 = λ y. FitsSigned w64 y in subst P (sym h.1) h.0;
  },
  tt,
)

pub plain_some : (text : List ℕ) (n : ℕ) (r : Option ℤ) → ((rest : List ℕ) → text ≢ 45 ∷ rest) → IsMagnitude text n → SomeIff r (FitsSigned w64 (pos 0 +ℤ pos n)) (pos 0 +ℤ pos n) → IfSome r (λ z. IsDecimalText text z) × IfNone r ((z : ℤ) → IsDecimalText text z → ⊥)
plain_some text n None e x h = (
  tt,
  λ z d.
      let b = without_minus text z e d.signed in
      let same : b.0 ≡ n = magnitude_only text b.0 n b.1 x in
      let P : ℤ → Type 0 = λ y. FitsSigned w64 y in
      h (subst P (b.2 ∙ (ap pos same ∙ sym (plus_is n))) d.in_range),
)
plain_some text n (Some z) e x h = (
  record {
    signed = plain x (h.1 ∙ plus_is n);
    in_range = let P : ℤ → Type 0 = λ y. FitsSigned w64 y in subst P (sym h.1) h.0;
  },
  tt,
)

-- a text stands for one number at most
pub decimal_only : (text : List ℕ) (y z : ℤ) → IsDecimalText text y → IsDecimalText text z → y ≡ z
decimal_only text y z c d = signed_only c.signed d.signed
  where
    signed_only : IsSigned text y → IsSigned text z → y ≡ z
    signed_only (plain {n = m} x p) (plain {n = n} v q) = p ∙ (ap pos (magnitude_only text m n x v) ∙ sym q)
    signed_only (plain {n = m} x p) (minus {rest = rest} e v q) = absurd (no_minus text rest m e x)
    signed_only (minus {rest = rest} e x p) (plain {n = n} v q) = absurd (no_minus text rest n e v)
    signed_only (minus {rest = rest} {n = m} e x p) (minus {rest = other} {n = n} f v q) =
        let same : other ≡ rest = cc in
        let P : List ℕ → Type 0 = λ l. IsMagnitude l n in
        p ∙ (ap (λ k. neg_ℤ (pos k)) (magnitude_only rest m n x (subst P same v)) ∙ sym q)
