-- What is written of a datetime reads as it.
use Rattle.std.proofs.Common.{◌≡◌, ℕ, ◌+◌, ◌*◌, ◌/◌, ◌%◌, ◌<◌, true, ◌&&◌, List, [], ◌∷◌, ◌++◌, refl, ap, sym, ◌∙◌, arith, subst, ℤ, pos, Result, Ok, Err, IfOk}
use Rattle.std.specs.Char.{is_ascii_digit}
use Rattle.std.specs.Fmt.{signed_decimal}
use Rattle.std.proofs.lemmas.Bool.Decides.{nat_tests}
use Rattle.std.proofs.lemmas.Int.{ints}
use Rattle.jiff_core.specs.Calendar.{IsDate, IsCivilDate, days_from_civil}
use Rattle.jiff_core.proofs.CalendarLemmas.{days_in_month_bounds}
use Rattle.sc_date_texts.specs.Forms.{allows, fits, two_at, three_at, four_at}
use Rattle.sc_date_texts.specs.DatetimeText.{date_form, clock_form, fraction_form, IsDateText, fraction, utc, IsMomentText, IsDatetimeText, moment}
use Rattle.sc_date_texts.specs.Written.{date_text, clock_text, fraction_text, moment_text, IsCivil, IsWritten, civil, other}

digit : (n : ℕ) → n < 10 → allows 35 (48 + n) ≡ true
digit n h = let d : is_ascii_digit (48 + n) ≡ true = grind (arith, nat_tests) in d

next : (p b : ℕ) (ps bs : List ℕ) → allows p b ≡ true → fits ps bs ≡ true → fits (p ∷ ps) (b ∷ bs) ≡ true
unfolding fits
next p b ps bs e h = (λ i. e i && fits ps bs) ∙ h

end : fits [] [] ≡ true
unfolding fits
end = refl

-- two digits more
next_two : (n : ℕ) (ps bs : List ℕ) → n < 100 → fits ps bs ≡ true → fits (35 ∷ 35 ∷ ps) ((48 + n / 10) ∷ (48 + n % 10) ∷ bs) ≡ true
next_two n ps bs l h = next _ _ _ _ (digit (n / 10) (omega arith)) (next _ _ _ _ (digit (n % 10) (omega arith)) h)

date_fits : (y m d : ℕ) → y < 10000 → m < 100 → d < 100 → fits date_form (date_text y m d) ≡ true
date_fits y m d ly lm ld =
    next _ _ _ _ (digit (y / 1000) (omega arith)) (next _ _ _ _ (digit (y / 100 % 10) (omega arith))
    (next _ _ _ _ (digit (y / 10 % 10) (omega arith)) (next _ _ _ _ (digit (y % 10) (omega arith))
    (next _ _ _ _ refl (next_two m _ _ lm (next _ _ _ _ refl (next_two d _ _ ld end)))))))

clock_fits : (t : ℕ) → t < 86400000 → fits clock_form (clock_text t) ≡ true
clock_fits t l =
    next _ _ _ _ refl (next_two (t / 3600000) _ _ (omega arith) (next _ _ _ _ refl (next_two (t / 60000 % 60) _ _ (omega arith)
    (next _ _ _ _ refl (next_two (t / 1000 % 60) _ _ (omega arith) end)))))

fraction_fits : (t : ℕ) → fits fraction_form (fraction_text t) ≡ true
fraction_fits t =
    let n = t % 1000 in
    next _ _ _ _ refl (next _ _ _ _ (digit (n / 100) (omega arith)) (next _ _ _ _ (digit (n / 10 % 10) (omega arith)) (next _ _ _ _ (digit (n % 10) (omega arith)) end)))

-- ---- the numbers at their places

year_at : (y m d : ℕ) → y < 10000 → four_at (date_text y m d) 0 ≡ y
unfolding four_at two_at
year_at y m d l = omega arith

month_at : (y m d : ℕ) → m < 100 → two_at (date_text y m d) 5 ≡ m
unfolding two_at
month_at y m d l = omega arith

day_at : (y m d : ℕ) → d < 100 → two_at (date_text y m d) 8 ≡ d
unfolding two_at
day_at y m d l = omega arith

hour_at : (t : ℕ) → t < 86400000 → two_at (clock_text t) 1 ≡ t / 3600000
unfolding two_at
hour_at t l = omega arith

minute_at : (t : ℕ) → two_at (clock_text t) 4 ≡ t / 60000 % 60
unfolding two_at
minute_at t = omega arith

second_at : (t : ℕ) → two_at (clock_text t) 7 ≡ t / 1000 % 60
unfolding two_at
second_at t = omega arith

milliseconds_at : (t : ℕ) → three_at (fraction_text t) 1 ≡ t % 1000
unfolding three_at two_at
milliseconds_at t = omega arith

-- ---- the parts and the whole

date_reads : (y m d : ℕ) → IsCivilDate (pos y) m d → IsDateText (date_text y m d) (days_from_civil (pos y) m d)
date_reads y m d h =
    let long = days_in_month_bounds (pos y) m in
    let ly : y < 10000 = let a = h.0 in omega (arith, ints) in
    let lm : m < 100 = let a = h.1 in omega arith in
    let ld : d < 100 = let a = h.2 in omega arith in
    let ey = year_at y m d ly in let em = month_at y m d lm in let ed = day_at y m d ld in
    let date : IsDate (pos y) (pos m) (pos d) = (h.0, (omega (arith, ints), omega (arith, ints)), (omega (arith, ints), omega (arith, ints))) in
    record {
      form = date_fits y m d ly lm ld;
      in_calendar = subst (λ k. IsDate (pos (four_at (date_text y m d) 0)) (pos (two_at (date_text y m d) 5)) (pos k)) (sym ed)
          (subst (λ k. IsDate (pos (four_at (date_text y m d) 0)) (pos k) (pos d)) (sym em) (subst (λ k. IsDate (pos k) (pos m) (pos d)) (sym ey) date));
      day_is = (λ i. days_from_civil (pos (sym ey i)) (sym em i) (sym ed i));
    }

moment_reads : (t : ℕ) → t < 86400000 → IsMomentText (moment_text t) (pos t)
moment_reads t l =
    let eh = hour_at t l in let em = minute_at t in let es = second_at t in
    record {
      clock = clock_text t;
      fraction = fraction_text t;
      zone = 90 ∷ [];
      parts = refl;
      time = t / 3600000 * 3600000 + t / 60000 % 60 * 60000 + t / 1000 % 60 * 1000;
      milliseconds = t % 1000;
      ahead = pos 0;
      clock_is = record { form = clock_fits t l; hour = omega arith; minute = omega arith; second = omega arith; time_is = omega arith };
      fraction_is = fraction (fraction_fits t) (sym (milliseconds_at t));
      zone_is = utc refl refl;
      value = omega (arith, ints);
    }

pub civil_reads : (z : ℤ) (y m d t : ℕ) → IsCivil z y m d t → IsDatetimeText (date_text y m d ++ moment_text t) z
civil_reads z y m d t h =
    moment (date_text y m d) (moment_text t) (days_from_civil (pos y) m d) (pos t) refl (date_reads y m d h.in_calendar) (moment_reads t h.below_day) h.sum

-- ---- what is written

-- the number as the code passes it on, and the time of the day that it forms
same_civil : (z passed : ℤ) (y m d t time : ℕ) → passed ≡ z → time ≡ t → IsCivil passed y m d t → IsCivil z y m d time
same_civil z passed y m d t time e f h = subst (λ k. IsCivil z y m d k) (sym f) (subst (λ k. IsCivil k y m d t) e h)

module _ {S E : Type 0} (bytes : S → List ℕ) (z passed : ℤ) (e : passed ≡ z) where
  pub written_civil : (r : Result S E) (y m d t time : ℕ) → time ≡ t → IsCivil passed y m d t → IfOk r (λ s. bytes s ≡ date_text y m d ++ moment_text time)
      → IfOk r (λ s. IsWritten z (bytes s))
  written_civil (Err x) y m d t time f h is = tt
  written_civil (Ok s) y m d t time f h is = civil y m d time (same_civil z passed y m d t time e f h) is

  pub civil_reads_back : (r : Result S E) (y m d t time : ℕ) → time ≡ t → IsCivil passed y m d t → IfOk r (λ s. bytes s ≡ date_text y m d ++ moment_text time)
      → IfOk r (λ s. IsDatetimeText (bytes s) z)
  civil_reads_back (Err x) y m d t time f h is = tt
  civil_reads_back (Ok s) y m d t time f h is = subst (λ text. IsDatetimeText text z) (sym is) (civil_reads z y m d time (same_civil z passed y m d t time e f h))

  pub written_other : (r : Result S E) → ((y m d t : ℕ) → IsCivil passed y m d t → ⊥) → IfOk r (λ s. bytes s ≡ 109 ∷ 115 ∷ 58 ∷ signed_decimal passed) → IfOk r (λ s. IsWritten z (bytes s))
  written_other (Err x) none is = tt
  written_other (Ok s) none is = other (λ y m d t h. none y m d t (subst (λ k. IsCivil k y m d t) (sym e) h)) (is ∙ ap (λ k. 109 ∷ 115 ∷ 58 ∷ signed_decimal k) e)
