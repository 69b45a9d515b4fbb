-- Dates of the calendar, from the library's answers, and how far each part of a datetime reaches.
use Rattle.std.proofs.Common.{◌≡◌, ℕ, ◌<◌, true, List, [], ◌∷◌, length, Some, Result, Ok, Err, IfOk, IsOk, ◌↔◌, refl, ap, sym, ◌∙◌, arith, subst, ℤ, pos, neg_ℤ, ◌≤ℤ◌}
use Rattle.std.proofs.lemmas.Int.{ints}
use Rattle.std.specs.Result.{result_ok}
use Rattle.jiff_core.specs.declared.civil.date.Date.{Date}
use Rattle.jiff_core.specs.declared.error.Error.{Error}
use Rattle.jiff_core.specs.Calendar.{IsDate, IsCivilDate, days_from_civil}
use Rattle.jiff_core.specs.Date.{IsYmd}
use Rattle.jiff_core.proofs.CalendarLemmas.{day_count_bounds, days_from_civil-day_count}
use Rattle.sc_date_texts.specs.Forms.{fits, two_at, four_at}
use Rattle.sc_date_texts.specs.DatetimeText.{date_form, IsDateText, IsClockText, IsFractionText, whole, fraction, fraction_form, IsOffsetText, IsZoneText, utc, east, west, IsMomentText}
use Rattle.sc_date_texts.proofs.FormLaws.{three_small}

pos_is : {a b : ℕ} → pos a ≡ pos b → a ≡ b
pos_is e = cc

-- the date that the library makes of the numbers
pub date_is : (text : List ℕ) (y m d : ℤ) (r : Result Date Error) (found : Date) (z : ℤ) → fits date_form text ≡ true
    → y ≡ pos (four_at text 0) → m ≡ pos (two_at text 5) → d ≡ pos (two_at text 8) → (IsOk r ↔ IsDate y m d) → IfOk r (IsYmd y m d)
    → Some found ≡ result_ok r → z ≡ days_from_civil found.year found.month found.day → IsDateText text z
date_is text y m d (Err e) found z form ey em ed ok ymd some day = absurd cc
date_is text y m d (Ok other) found z form ey em ed ok ymd some day =
    let same : found ≡ other = cc in
    let parts : IsYmd y m d found = subst (IsYmd y m d) (sym same) ymd in
    let month : found.month ≡ two_at text 5 = pos_is (parts.1 ∙ em) in
    let date : found.day ≡ two_at text 8 = pos_is (parts.2 ∙ ed) in
    record {
      form = form;
      in_calendar = subst (IsDate (pos (four_at text 0)) (pos (two_at text 5))) ed (subst (λ k. IsDate (pos (four_at text 0)) k d) em (subst (λ k. IsDate k m d) ey (ok.0 refl)));
      day_is = day ∙ (λ i. days_from_civil ((parts.0 ∙ ey) i) (month i) (date i));
    }

-- ---- bounds

pub clock_bound : (text : List ℕ) (time : ℕ) → IsClockText text time → time < 86400000
clock_bound text time h = let a = h.hour in let b = h.minute in let d = h.second in let e = h.time_is in omega arith

pub offset_bound : (text : List ℕ) (time : ℕ) → IsOffsetText text time → time < 86400000
offset_bound text time h = let a = h.hour in let b = h.minute in let e = h.time_is in omega arith

pub fraction_bound : (text : List ℕ) (time : ℕ) → IsFractionText text time → time < 1000
fraction_bound text time (whole e z) = omega arith
fraction_bound text time (fraction f z) = let l = three_small fraction_form text f 1 refl refl refl in omega arith

pub zone_bound : (text : List ℕ) (ahead : ℤ) → IsZoneText text ahead → (neg_ℤ (pos 86400000) ≤ℤ ahead) × (ahead ≤ℤ pos 86400000)
zone_bound text ahead (utc e z) = subst (λ k. (neg_ℤ (pos 86400000) ≤ℤ k) × (k ≤ℤ pos 86400000)) (sym z) (omega (arith, ints), omega (arith, ints))
zone_bound text ahead (east {rest = rest} {time = time} e o z) =
    let b = offset_bound rest time o in subst (λ k. (neg_ℤ (pos 86400000) ≤ℤ k) × (k ≤ℤ pos 86400000)) (sym z) (omega (arith, ints), omega (arith, ints))
zone_bound text ahead (west {rest = rest} {time = time} e o z) =
    let b = offset_bound rest time o in subst (λ k. (neg_ℤ (pos 86400000) ≤ℤ k) × (k ≤ℤ pos 86400000)) (sym z) (omega (arith, ints), omega (arith, ints))

-- a zone from what stands behind its first byte
pub zone_utc : (text rest : List ℕ) (first : ℕ) → text ≡ first ∷ rest → first ≡ 90 → length rest ≡ 0 → IsZoneText text (pos 0)
zone_utc text [] first e f l = utc (e ∙ ap (λ b. b ∷ []) f) refl
zone_utc text (c ∷ rest) first e f l = absurd (omega arith)

pub zone_east : (text rest : List ℕ) (first time : ℕ) (ahead : ℤ) → text ≡ first ∷ rest → first ≡ 43 → IsOffsetText rest time → ahead ≡ pos time → IsZoneText text ahead
zone_east text rest first time ahead e f o z = east (e ∙ ap (λ b. b ∷ rest) f) o z

pub zone_west : (text rest : List ℕ) (first time : ℕ) (ahead : ℤ) → text ≡ first ∷ rest → first ≡ 45 → IsOffsetText rest time → ahead ≡ neg_ℤ (pos time) → IsZoneText text ahead
zone_west text rest first time ahead e f o z = west (e ∙ ap (λ b. b ∷ rest) f) o z

pub day_bound : (text : List ℕ) (day : ℤ) → IsDateText text day → (neg_ℤ (pos 5000000) ≤ℤ day) × (day ≤ℤ pos 5000000)
day_bound text day h =
    let c = h.in_calendar in
    let month = two_at text 5 in let date = two_at text 8 in
    let civil : IsCivilDate (pos (four_at text 0)) month date = (c.0, (omega (arith, ints), omega (arith, ints)), (omega (arith, ints), omega (arith, ints))) in
    let b = day_count_bounds (pos (four_at text 0)) month date civil in
    let k = days_from_civil-day_count (pos (four_at text 0)) month date in
    let e = h.day_is in
    (omega (arith, ints), omega (arith, ints))

pub moment_bound : (text : List ℕ) (z : ℤ) → IsMomentText text z → (neg_ℤ (pos 200000000) ≤ℤ z) × (z ≤ℤ pos 200000000)
moment_bound text z h =
    let a = clock_bound h.clock h.time h.clock_is in
    let b = fraction_bound h.fraction h.milliseconds h.fraction_is in
    let d = zone_bound h.zone h.ahead h.zone_is in
    let e = h.value in
    (omega (arith, ints), omega (arith, ints))
