-- The clauses hold of whole days and the rest, and of nothing else: where the exact sum leaves 64 bits, the number has the
-- other sign.
use Rattle.std.proofs.Common.{◌≡◌, ℕ, suc, ◌+◌, ◌-◌, ◌/◌, ◌%◌, ◌^◌, ◌<◌, ◌≤◌, true, false, ℤ, pos, negsuc, ◌+ℤ◌, ◌*ℤ◌, ◌<ℤ◌, ◌≤ℤ◌, refl, ap, sym, ◌∙◌, arith, SFits, to_z, ⊎_elim, mod-eq_of_lt, int_lt}
use Rattle.std.proofs.Math.Facts.{to_z_pos, to_z-neg}
use Rattle.std.proofs.lemmas.Bool.{cases_lt, false≢true, true≢false}
use Rattle.std.proofs.lemmas.Int.{ints, int_wrap_fits, int_wrap-add_left}
use Rattle.std.specs.Int.{w64, int_wrap}
use Rattle.sc_dates.specs.Days.{day, days_of, time_of}
use Rattle.sc_day_laws.specs.Clauses.{first_day, last_day, KeepsClauses}
use Rattle.sc_dates.proofs.DayLaws.{split, only}

-- tests of signed numbers
pub less : (a b : ℤ) → a <ℤ b → int_lt a b ≡ true
less a b h = grind (arith, ints)

pub not_less : (a b : ℤ) → b ≤ℤ a → int_lt a b ≡ false
not_less a b h = grind (arith, ints)

pub is_less : (a b : ℤ) → int_lt a b ≡ true → a <ℤ b
is_less a b h = grind (arith, ints)

pub is_not_less : (a b : ℤ) → int_lt a b ≡ false → b ≤ℤ a
is_not_less a b h = grind (arith, ints)

pub holds : (z : ℤ) → SFits w64 z → KeepsClauses z (days_of z) (time_of z)
holds z f =
    let s = split z in
    record {
      sum = int_wrap-add_left w64 (days_of z *ℤ pos day) (time_of z) ∙ ap (int_wrap w64) s.sum ∙ int_wrap_fits w64 z f;
      not_negative = not_less (time_of z) (pos 0) s.not_negative;
      below_day = less (time_of z) (pos day) s.below_day;
      not_before = not_less (days_of z) first_day (omega (arith, ints));
      not_after = not_less last_day (days_of z) (omega (arith, ints));
      sign = same_sign z;
    }
  where
    same_sign : (z : ℤ) → int_lt (days_of z) (pos 0) ≡ int_lt z (pos 0)
    same_sign (pos n) = not_less (pos (n / day)) (pos 0) (omega (arith, ints)) ∙ sym (not_less (pos n) (pos 0) (omega (arith, ints)))
    same_sign (negsuc n) = refl

-- a number a little out of the range of 64 bits has the other sign when it is wrapped
pub high_wraps : (m : ℕ) → 2 ^ 63 ≤ m → m < 2 ^ 64 → int_lt (int_wrap w64 (pos m)) (pos 0) ≡ true
unfolding int_wrap
high_wraps m h l =
    let k = 2 ^ 64 - 1 - m in
    let e : m ≡ 2 ^ 64 - suc k = omega arith in
    ap (λ x. int_lt (to_z w64 x) (pos 0)) (mod-eq_of_lt l ∙ e) ∙ ap (λ x. int_lt x (pos 0)) (to_z-neg w64 k (omega arith))

pub low_wraps : (m : ℕ) → 2 ^ 63 ≤ m → m < 2 ^ 64 → int_lt (int_wrap w64 (negsuc m)) (pos 0) ≡ false
unfolding int_wrap
low_wraps m h l =
    let e : 2 ^ 64 - 1 - m % 2 ^ 64 ≡ 2 ^ 64 - 1 - m = ap (λ x. 2 ^ 64 - 1 - x) (mod-eq_of_lt l) in
    let small : 2 ^ 64 - 1 - m < 2 ^ 63 = omega arith in
    ap (λ x. int_lt (to_z w64 x) (pos 0)) e ∙ ap (λ x. int_lt x (pos 0)) (to_z_pos w64 small)
    ∙ not_less (pos (2 ^ 64 - 1 - m)) (pos 0) (omega (arith, ints))

-- the exact sum fits, since the days have the sign of the wrapped sum
fits : (x : ℤ) → negsuc (2 ^ 63 + day) ≤ℤ x → x ≤ℤ pos (2 ^ 63 + day) → int_lt x (pos 0) ≡ int_lt (int_wrap w64 x) (pos 0) → SFits w64 x
fits (pos m) low high same =
    ⊎_elim (λ (l : m < 2 ^ 63). record { sfits = l })
    (λ (h : 2 ^ 63 ≤ m). absurd (false≢true (sym (not_less (pos m) (pos 0) (omega (arith, ints))) ∙ same ∙ high_wraps m h (omega (arith, ints))))) (cases_lt m (2 ^ 63))
fits (negsuc m) low high same =
    ⊎_elim (λ (l : m < 2 ^ 63). record { sfits = l })
    (λ (h : 2 ^ 63 ≤ m). absurd (true≢false (same ∙ low_wraps m h (omega (arith, ints))))) (cases_lt m (2 ^ 63))

-- the exact sum has the sign of the days
exact_sign : (d t : ℤ) → pos 0 ≤ℤ t → t <ℤ pos day → int_lt (d *ℤ pos day +ℤ t) (pos 0) ≡ int_lt d (pos 0)
exact_sign (pos n) t low high =
    not_less (pos n *ℤ pos day +ℤ t) (pos 0) (omega (arith, ints)) ∙ sym (not_less (pos n) (pos 0) (omega (arith, ints)))
exact_sign (negsuc n) t low high = less (negsuc n *ℤ pos day +ℤ t) (pos 0) (omega (arith, ints))

pub clauses_only : (z d t : ℤ) → KeepsClauses z d t → (d ≡ days_of z) × (t ≡ time_of z)
clauses_only z d t h =
    let low = is_not_less t (pos 0) h.not_negative in
    let high = is_less t (pos day) h.below_day in
    let early = is_not_less d first_day h.not_before in
    let late = is_not_less last_day d h.not_after in
    let x = d *ℤ pos day +ℤ t in
    let wrapped : int_wrap w64 x ≡ z = sym (int_wrap-add_left w64 (d *ℤ pos day) t) ∙ h.sum in
    let same : int_lt x (pos 0) ≡ int_lt (int_wrap w64 x) (pos 0) = exact_sign d t low high ∙ h.sign ∙ ap (λ y. int_lt y (pos 0)) (sym wrapped) in
    let whole = fits x (omega (arith, ints)) (omega (arith, ints)) same in
    only z d t (record { sum = sym (int_wrap_fits w64 x whole) ∙ wrapped; not_negative = low; below_day = high })
