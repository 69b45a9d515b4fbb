-- The date and the time of the day that a number of milliseconds is.
use Rattle.std.proofs.Common.{◌≡◌, ℕ, ◌<◌, ◌≤◌, zero, suc, Some, None, Result, Ok, Err, IfOk, IsOk, ◌↔◌, refl, ap, sym, ◌∙◌, arith, subst, ℤ, pos, negsuc, neg_ℤ, ◌+ℤ◌, ◌*ℤ◌, ◌≤ℤ◌, ◌<ℤ◌, unsigned_abs, SFits, to_z, of_z}
use Rattle.std.specs.Int.{w64, int_div_euclid, int_rem_euclid}
use Rattle.std.proofs.lemmas.Int.{ints, to_z-of_z}
use Rattle.std.proofs.lemmas.Bool.{false≢true}
use Rattle.std.specs.Result.{result_ok}
use Rattle.jiff_core.specs.declared.civil.date.Date.{Date}
use Rattle.jiff_core.specs.declared.error.Error.{Error}
use Rattle.jiff_core.specs.Calendar.{IsCivilDate, IsEpochDay, day_count, days_from_civil}
use Rattle.jiff_core.specs.Date.{epoch_day}
use Rattle.jiff_core.proofs.DateLemmas.{civil, epoch_day_range, epoch_day_injective}
use Rattle.jiff_core.proofs.CalendarLemmas.{days_from_civil-day_count, day_count_bounds, day_count-lt_year, day_count-later_year, day_count-day_of_year}
use Rattle.jiff_core.proofs.MarchLemmas.{day_count-early}
use Rattle.sc_date_texts.specs.Written.{IsCivil, IsInYears}

abbrev day : ℕ
day = 86400000

pub record IsSplit (z d : ℤ) (t : ℕ) : Type 0 where
  pub sum : z ≡ d *ℤ pos day +ℤ pos t
  pub below : t < day

pub split : (z : ℤ) → IsSplit z (int_div_euclid z (pos day)) (unsigned_abs (int_rem_euclid z (pos day)))
split (pos n) = record { sum = omega (arith, ints); below = omega arith }
split (negsuc n) = record { sum = omega (arith, ints); below = omega arith }

same_day : (z d : ℤ) (t : ℕ) → IsSplit z d t → d ≡ int_div_euclid z (pos day)
same_day z d t h = let s = split z in omega (arith, ints)

abbrev date_of : (year month day : ℕ) → IsCivilDate (pos year) month day → Date
date_of year month day h = record { year = pos year; month = month; day = day; year_in = h.0; month_in = h.1; day_in = h.2 }

day_of : (z : ℤ) (year month date time : ℕ) → IsCivil z year month date time → days_from_civil (pos year) month date ≡ int_div_euclid z (pos day)
day_of z year month date time h = same_day z (days_from_civil (pos year) month date) time (record { sum = h.sum; below = h.below_day })

-- where the day number is none of the library's, there is no date
pub no_date : (z number : ℤ) (r : Result Date Error) → number ≡ int_div_euclid z (pos 86400000) → (IsOk r ↔ IsEpochDay number) → None ≡ result_ok r
    → (year month date time : ℕ) → IsCivil z year month date time → ⊥
no_date z number (Ok found) e ok none year month date time h = absurd cc
no_date z number (Err other) e ok none year month date time h =
    let range = epoch_day_range (date_of year month date h.in_calendar) in
    false≢true (ok.1 (subst IsEpochDay (day_of z year month date time h ∙ sym e) range))

-- where its year is below 0, neither
pub no_year : (z number : ℤ) (r : Result Date Error) (found : Date) → number ≡ int_div_euclid z (pos 86400000) → IfOk r (λ d. epoch_day d ≡ number) → Some found ≡ result_ok r → found.year <ℤ pos 0
    → (year month date time : ℕ) → IsCivil z year month date time → ⊥
no_year z number (Err other) found e value some below year month date time h = absurd cc
no_year z number (Ok other) found e value some below year month date time h =
    let same : found ≡ other = cc in
    let found_day : epoch_day found ≡ number = subst (λ d. epoch_day d ≡ number) (sym same) value in
    let parts = epoch_day_injective found (date_of year month date h.in_calendar) (found_day ∙ e ∙ sym (day_of z year month date time h)) in
    let y : found.year ≡ pos year = parts.0 in
    absurd (omega (arith, ints))

pub year_is : (z : ℤ) → pos 0 ≤ℤ z → pos (unsigned_abs z) ≡ z
year_is z h = omega (arith, ints)

pub civil_is : (z number : ℤ) (r : Result Date Error) (found : Date) → number ≡ int_div_euclid z (pos 86400000) → IfOk r (λ d. epoch_day d ≡ number) → Some found ≡ result_ok r → pos 0 ≤ℤ found.year
    → IsCivil z (unsigned_abs found.year) found.month found.day (unsigned_abs (int_rem_euclid z (pos 86400000)))
civil_is z number (Err other) found e value some low = absurd cc
civil_is z number (Ok other) found e value some low =
    let same : found ≡ other = cc in
    let found_day : epoch_day found ≡ number = subst (λ d. epoch_day d ≡ number) (sym same) value in
    let y = year_is found.year low in
    let s = split z in
    record {
      in_calendar = subst (λ k. IsCivilDate k found.month found.day) (sym y) (civil found);
      below_day = s.below;
      sum = s.sum ∙ ap (λ k. k *ℤ pos 86400000 +ℤ pos (unsigned_abs (int_rem_euclid z (pos 86400000)))) (sym (ap (λ k. days_from_civil k found.month found.day) y ∙ found_day ∙ e));
    }

-- the quotient that the code forms
pub quotient_is : (z r : ℤ) → SFits w64 z → SFits w64 r → r ≡ int_div_euclid (to_z w64 (of_z w64 z)) (pos day) → to_z w64 (of_z w64 r) ≡ int_div_euclid z (pos day)
quotient_is z r f g e = to_z-of_z w64 r g ∙ e ∙ ap (λ x. int_div_euclid x (pos day)) (to_z-of_z w64 z f)

pub rest_is : (z r : ℤ) → SFits w64 z → r ≡ int_rem_euclid (to_z w64 (of_z w64 z)) (pos day) → r ≡ pos (unsigned_abs (int_rem_euclid z (pos day)))
rest_is z r f e = e ∙ ap (λ x. int_rem_euclid x (pos day)) (to_z-of_z w64 z f) ∙ positive z
  where
    positive : (z : ℤ) → int_rem_euclid z (pos day) ≡ pos (unsigned_abs (int_rem_euclid z (pos day)))
    positive (pos n) = refl
    positive (negsuc n) = refl

-- ---- the years 0 to 9999 by numbers

year_0 : day_count (pos 0) 1 1 ≡ 3652425
year_0 = day_count-early (pos 0) 9999 1 1 refl (omega arith) (omega arith) (omega arith)

-- where there is no date of these years, the number is none of them
pub no_date_out : (z number : ℤ) (r : Result Date Error) → number ≡ int_div_euclid z (pos 86400000) → (IsOk r ↔ IsEpochDay number) → None ≡ result_ok r
    → IsInYears z → ⊥
no_date_out z number (Ok found) e ok none h = absurd cc
no_date_out z number (Err other) e ok none h =
    let s = split z in
    let range : IsEpochDay number = (let sum = s.sum in let below = s.below in omega (arith, ints), let sum = s.sum in let below = s.below in omega (arith, ints)) in
    false≢true (ok.1 range)

before_year_0 : (d : Date) → d.year <ℤ pos 0 → epoch_day d <ℤ neg_ℤ (pos 719528)
before_year_0 d below =
    let l = day_count-lt_year d.year d.month d.day (pos 0) 1 1 (civil d) (omega arith) below in
    let k = days_from_civil-day_count d.year d.month d.day in
    let e = year_0 in
    omega (arith, ints)

pub no_year_out : (z number : ℤ) (r : Result Date Error) (found : Date) → number ≡ int_div_euclid z (pos 86400000) → IfOk r (λ d. epoch_day d ≡ number) → Some found ≡ result_ok r → found.year <ℤ pos 0
    → IsInYears z → ⊥
no_year_out z number (Err other) found e value some below h = absurd cc
no_year_out z number (Ok other) found e value some below h =
    let same : found ≡ other = cc in
    let found_day : epoch_day found ≡ number = subst (λ d. epoch_day d ≡ number) (sym same) value in
    let early : number <ℤ neg_ℤ (pos 719528) = subst (λ k. k <ℤ neg_ℤ (pos 719528)) found_day (before_year_0 found below) in
    let s = split z in
    let sum = s.sum in
    let under = s.below in
    omega (arith, ints)

from_year_0 : (y m d : ℕ) → IsCivilDate (pos y) m d → 3652425 ≤ day_count (pos y) m d
from_year_0 zero m d h =
    let e = year_0 in
    let s = day_count-day_of_year (pos 0) m d h.2.0 in
    let low = h.2.0 in
    omega arith
from_year_0 (suc y) m d h =
    let e = year_0 in
    let l = day_count-later_year (pos 0) (pos (suc y)) (omega (arith, ints)) (omega (arith, ints)) in
    let s = day_count-day_of_year (pos (suc y)) m d h.2.0 in
    let low = h.2.0 in
    omega arith

-- and each date of these years with a time of the day is one of these numbers
pub civil_years : (z : ℤ) (y m d t : ℕ) → IsCivil z y m d t → IsInYears z
civil_years z y m d t h =
    let low = from_year_0 y m d h.in_calendar in
    let b = day_count_bounds (pos y) m d h.in_calendar in
    let k = days_from_civil-day_count (pos y) m d in
    let sum = h.sum in
    let below = h.below_day in
    (omega (arith, ints), omega (arith, ints))
