-- A text stands for one duration at most, and a minus in front is told from digits.
use Rattle.std.proofs.Common.{◌≡◌, ◌≢◌, ℕ, zero, suc, ◌^◌, ◌<◌, List, ◌∷◌, length, get_or, Option, Some, None, arith, ℤ, pos, neg_ℤ, ◌+ℤ◌, ◌-ℤ◌, FitsSigned, w64, ap, sym, ◌∙◌, subst}
use Rattle.std.specs.Option.{SomeIff, IfSome, IfNone}
use Rattle.std.proofs.lemmas.Bool.{true≢false}
use Rattle.std.proofs.lemmas.Int.{ints}
use Rattle.sc_date_texts.specs.Units.{all_units}
use Rattle.sc_date_texts.specs.Apart.{AreApart}
use Rattle.sc_date_texts.specs.Fronts.{is_other}
use Rattle.sc_date_texts.specs.DurationText.{plain, minus, IsMagnitude, IsSigned, IsDurationText}
use Rattle.sc_date_texts.proofs.PartLaws.{Stops, begins}
use Rattle.sc_date_texts.proofs.StepLaws.{parts_only}

-- two words with other first letters
apart : (a b : ℕ) (v w : List ℕ) → a ≢ b → a ∷ v ≢ b ∷ w
apart a b v w h e = h (ap (λ l. get_or l 0 0) e)

-- two words of which one is longer
longer : (v w : List ℕ) → length w < length v → v ≢ w
longer v w h e = let l : length v ≡ length w = ap length e in omega arith

pub are_apart : AreApart all_units
are_apart =
    let u = λ (a b : ℕ) (v w : List ℕ) (h : a ≢ b). apart a b v w h in (
      (u _ _ _ _ (λ e. omega arith), (u _ _ _ _ (λ e. omega arith), (u _ _ _ _ (λ e. omega arith), (u _ _ _ _ (λ e. omega arith), tt)))),
      (
        (u _ _ _ _ (λ e. omega arith), (u _ _ _ _ (λ e. omega arith), (u _ _ _ _ (λ e. omega arith), tt))),
        ((u _ _ _ _ (λ e. omega arith), (longer _ _ (omega arith), tt)), ((u _ _ _ _ (λ e. omega arith), tt), (tt, tt))),
      ),
    )

pub magnitude_only : (text : List ℕ) (m n : ℕ) → IsMagnitude text m → IsMagnitude text n → m ≡ n
magnitude_only text m n x y = parts_only all_units text m n are_apart x.parts y.parts

-- it begins with no minus
pub no_minus : (text rest : List ℕ) (n : ℕ) → text ≡ 45 ∷ rest → IsMagnitude text n → ⊥
no_minus text rest n e x = true≢false (subst (Stops is_other) e (begins all_units text n x.parts))

-- behind a minus stands a magnitude
pub behind_minus : (text rest : List ℕ) (z : ℤ) → text ≡ 45 ∷ rest → IsSigned text z → (n : ℕ) × IsMagnitude rest n × (z ≡ neg_ℤ (pos n))
behind_minus text rest z e (plain {n = n} x p) = absurd (no_minus text rest n e x)
behind_minus text rest z e (minus {rest = other} {n = n} p x q) =
    let same : other ≡ rest = cc in
    let P : List ℕ → Type 0 = λ l. IsMagnitude l n in
    (n, subst P same x, q)

-- and where there is no minus, the text is one itself
pub without_minus : (text : List ℕ) (z : ℤ) → ((rest : List ℕ) → text ≢ 45 ∷ rest) → IsSigned text z → (n : ℕ) × IsMagnitude text n × (z ≡ pos n)
without_minus text z none (plain {n = n} x p) = (n, x, p)
without_minus text z none (minus {rest = other} p x q) = absurd (none other p)

neg_is : (n : ℕ) → pos 0 -ℤ pos n ≡ neg_ℤ (pos n)
neg_is n = omega (arith, ints)

plus_is : (n : ℕ) → pos 0 +ℤ pos n ≡ pos n
plus_is n = omega (arith, ints)

neg-le : (n : ℕ) → FitsSigned w64 (neg_ℤ (pos n)) → n < 2 ^ 64
neg-le zero h = omega arith
neg-le (suc n) h = let f = h.sfits in omega arith

pub minus_none : (text rest : List ℕ) → text ≡ 45 ∷ rest → ((n : ℕ) → n < 2 ^ 64 → IsMagnitude rest n → ⊥) → (z : ℤ) → IsDurationText text z → ⊥
minus_none text rest e none z d =
    let b = behind_minus text rest z e d.signed in
    let P : ℤ → Type 0 = λ y. FitsSigned w64 y in
    none b.0 (neg-le b.0 (subst P b.2 d.in_range)) b.1

pub plain_none : (text : List ℕ) → ((rest : List ℕ) → text ≢ 45 ∷ rest) → ((n : ℕ) → n < 2 ^ 64 → IsMagnitude text n → ⊥) → (z : ℤ) → IsDurationText text z → ⊥
plain_none text e none z d =
    let b = without_minus text z e d.signed in
    let P : ℤ → Type 0 = λ y. FitsSigned w64 y in
    let f = subst P b.2 d.in_range in
    none b.0 (let g = f.sfits in omega arith) b.1

pub minus_some : (text rest : List ℕ) (n : ℕ) (r : Option ℤ) → text ≡ 45 ∷ rest → IsMagnitude rest n → SomeIff r (FitsSigned w64 (pos 0 -ℤ pos n)) (pos 0 -ℤ pos n) → IfSome r (λ z. IsDurationText text z) × IfNone r ((z : ℤ) → IsDurationText text z → ⊥)
minus_some text rest n None e x h = (
  tt,
  λ z d.
      let b = behind_minus text rest z e d.signed in
      let same : b.0 ≡ n = magnitude_only rest b.0 n b.1 x in
      let P : ℤ → Type 0 = λ y. FitsSigned w64 y in
      h (subst P (b.2 ∙ (ap (λ k. neg_ℤ (pos k)) same ∙ sym (neg_is n))) d.in_range),
)
minus_some text rest n (Some z) e x h = (
  record {
    signed = minus e x (h.1 ∙ neg_is n);
    in_range = let P : ℤ → Type 0 = λ y. FitsSigned w64 y in subst P (sym h.1) h.0;
  },
  tt,
)

pub plain_some : (text : List ℕ) (n : ℕ) (r : Option ℤ) → ((rest : List ℕ) → text ≢ 45 ∷ rest) → IsMagnitude text n → SomeIff r (FitsSigned w64 (pos 0 +ℤ pos n)) (pos 0 +ℤ pos n) → IfSome r (λ z. IsDurationText text z) × IfNone r ((z : ℤ) → IsDurationText text z → ⊥)
plain_some text n None e x h = (
  tt,
  λ z d.
      let b = without_minus text z e d.signed in
      let same : b.0 ≡ n = magnitude_only text b.0 n b.1 x in
      let P : ℤ → Type 0 = λ y. FitsSigned w64 y in
      h (subst P (b.2 ∙ (ap pos same ∙ sym (plus_is n))) d.in_range),
)
plain_some text n (Some z) e x h = (
  record {
    signed = plain x (h.1 ∙ plus_is n);
    in_range = let P : ℤ → Type 0 = λ y. FitsSigned w64 y in subst P (sym h.1) h.0;
  },
  tt,
)

-- a text stands for one duration at most
pub duration_only : (text : List ℕ) (y z : ℤ) → IsDurationText text y → IsDurationText text z → y ≡ z
duration_only text y z c d = signed_only c.signed d.signed
  where
    signed_only : IsSigned text y → IsSigned text z → y ≡ z
    signed_only (plain {n = m} x p) (plain {n = n} v q) = p ∙ (ap pos (magnitude_only text m n x v) ∙ sym q)
    signed_only (plain {n = m} x p) (minus {rest = rest} e v q) = absurd (no_minus text rest m e x)
    signed_only (minus {rest = rest} e x p) (plain {n = n} v q) = absurd (no_minus text rest n e v)
    signed_only (minus {rest = rest} {n = m} e x p) (minus {rest = other} {n = n} f v q) =
        let same : other ≡ rest = cc in
        let P : List ℕ → Type 0 = λ l. IsMagnitude l n in
        p ∙ (ap (λ k. neg_ℤ (pos k)) (magnitude_only rest m n x (subst P same v)) ∙ sym q)
