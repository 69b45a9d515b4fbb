-- `datetime_of` decides which text stands for which datetime.
use Rattle.std.proofs.Common.{◌≡◌, ℕ, ◌+◌, ◌*◌, ◌<◌, List, [], ◌∷◌, ◌++◌, length, take, drop, Some, None, option_map, refl, arith, ℤ, pos, neg_ℤ, ◌+ℤ◌, ◌-ℤ◌, ◌*ℤ◌, ap, sym, ◌∙◌, subst, Bool, true, false, cond, eqb, leb, Result, IfOk, OnErr}
use Rattle.std.specs.Option.{option_and_then}
use Rattle.std.specs.Result.{result_ok}
use Rattle.std.proofs.lemmas.Bool.{eqb-true, lt-ltb, ltb-true, le-leb, leb-true, and_parts, and_from}
use Rattle.std.proofs.lemmas.Option.{cond_some}
use Rattle.std.proofs.lemmas.List.{length-append, take_all}
use Rattle.std.proofs.lemmas.Int.{ints}
use Rattle.jiff_core.specs.Calendar.{IsDate, days_in_month, days_from_civil}
use Rattle.sc_date_texts.specs.Forms.{fits, two_at, three_at, four_at}
use Rattle.sc_date_texts.specs.Moments.{fraction_length}
use Rattle.sc_date_texts.specs.DatetimeText.{date_form, fraction_form, IsDateText, IsClockText, IsFractionText, whole, fraction, IsOffsetText, IsZoneText, utc, east, west, IsMomentText, IsDatetimeText, date, moment}
use Rattle.sc_date_texts.specs.DatetimeValue.{is_civil, date_of, clock_of, fraction_of, offset_of, zone_of, moment_of, datetime_of}
use Rattle.sc_date_texts.proofs.FormLaws.{fits_length, four_small}
use Rattle.sc_date_texts.proofs.StepLaws.{no_length}
use Rattle.sc_date_texts.proofs.MomentLaws.{IsMomentCut, moment_parts, moment_is, date_length, first_is, short_moment, date_alone, date_and_moment}
use Rattle.sc_date_texts.proofs.ValueLaws.{map_some, and_then_some, eqb_false, read_by}

-- ---- the parts

civil_from : (y m d : ℕ) → IsDate (pos y) (pos m) (pos d) → is_civil y m d ≡ true
civil_from y m d h =
    let a = h.1 in let b = h.2 in
    and_from _ _ (lt-ltb 0 m (omega (arith, ints))) (and_from _ _ (le-leb m 12 (omega (arith, ints)))
    (and_from _ _ (lt-ltb 0 d (omega (arith, ints))) (le-leb d (days_in_month (pos y) m) (omega (arith, ints)))))

civil_to : (y m d : ℕ) → y < 10000 → is_civil y m d ≡ true → IsDate (pos y) (pos m) (pos d)
civil_to y m d low h =
    let p = and_parts _ _ h in let q = and_parts _ _ p.1 in let r = and_parts _ _ q.1 in
    let a = ltb-true 0 m p.0 in let b = leb-true m 12 q.0 in let e = ltb-true 0 d r.0 in let f = leb-true d (days_in_month (pos y) m) r.1 in
    ((omega (arith, ints), omega (arith, ints)), (omega (arith, ints), omega (arith, ints)), (omega (arith, ints), omega (arith, ints)))

date_from : (text : List ℕ) (z : ℤ) → IsDateText text z → date_of text ≡ Some z
date_from text z h =
    ap (λ t. cond t (Some (days_from_civil (pos (four_at text 0)) (two_at text 5) (two_at text 8))) None)
    (and_from _ _ h.form (civil_from (four_at text 0) (two_at text 5) (two_at text 8) h.in_calendar))
    ∙ ap Some (sym h.day_is)

date_to : (text : List ℕ) (z : ℤ) → date_of text ≡ Some z → IsDateText text z
date_to text z e =
    let s = cond_some _ _ z e in
    let p = and_parts _ _ s.0 in
    record {
      form = p.0;
      in_calendar = civil_to (four_at text 0) (two_at text 5) (two_at text 8) (four_small date_form text p.0 0 refl refl refl refl) p.1;
      day_is = sym s.1;
    }

clock_from : (text : List ℕ) (t : ℕ) → IsClockText text t → clock_of text ≡ Some t
clock_from text t h =
    ap (λ b. cond b (Some (two_at text 1 * 3600000 + two_at text 4 * 60000 + two_at text 7 * 1000)) None)
    (and_from _ _ h.form (and_from _ _ (lt-ltb _ _ h.hour) (and_from _ _ (lt-ltb _ _ h.minute) (lt-ltb _ _ h.second))))
    ∙ ap Some (sym h.time_is)

clock_to : (text : List ℕ) (t : ℕ) → clock_of text ≡ Some t → IsClockText text t
clock_to text t e =
    let s = cond_some _ _ t e in
    let p = and_parts _ _ s.0 in let q = and_parts _ _ p.1 in let r = and_parts _ _ q.1 in
    record { form = p.0; hour = ltb-true _ _ q.0; minute = ltb-true _ _ r.0; second = ltb-true _ _ r.1; time_is = sym s.1 }

offset_from : (text : List ℕ) (t : ℕ) → IsOffsetText text t → offset_of text ≡ Some t
offset_from text t h =
    ap (λ b. cond b (Some (two_at text 0 * 3600000 + two_at text 2 * 60000)) None) (and_from _ _ h.form (and_from _ _ (lt-ltb _ _ h.hour) (lt-ltb _ _ h.minute)))
    ∙ ap Some (sym h.time_is)

offset_to : (text : List ℕ) (t : ℕ) → offset_of text ≡ Some t → IsOffsetText text t
offset_to text t e =
    let s = cond_some _ _ t e in
    let p = and_parts _ _ s.0 in let q = and_parts _ _ p.1 in
    record { form = p.0; hour = ltb-true _ _ q.0; minute = ltb-true _ _ q.1; time_is = sym s.1 }

fraction_from : (text : List ℕ) (t : ℕ) → IsFractionText text t → fraction_of text ≡ Some t
fraction_from text t (whole e z) = ap fraction_of e ∙ ap Some (sym z)
fraction_from text t (fraction f z) =
    let l = fits_length fraction_form text f in
    let other = eqb_false (length text) 0 (λ e. omega arith) in
    ap (λ b. cond b (Some 0) (cond (fits fraction_form text) (Some (three_at text 1)) None)) other
    ∙ ap (λ b. cond b (Some (three_at text 1)) None) f ∙ ap Some (sym z)

fraction_to : (text : List ℕ) (t : ℕ) → fraction_of text ≡ Some t → IsFractionText text t
fraction_to text t e = by (eqb (length text) 0) refl e
  where
    by : (b : Bool) → eqb (length text) 0 ≡ b → cond b (Some 0) (cond (fits fraction_form text) (Some (three_at text 1)) None) ≡ Some t → IsFractionText text t
    by true is e = whole (no_length text (eqb-true (length text) 0 is)) (let z : 0 ≡ t = cc in sym z)
    by false is e = let s = cond_some (fits fraction_form text) (three_at text 1) t e in fraction s.0 (sym s.1)

zone_from : (text : List ℕ) (a : ℤ) → IsZoneText text a → zone_of text ≡ Some a
zone_from text a (utc e z) = ap zone_of e ∙ ap Some (sym z)
zone_from text a (east {rest = rest} {time = t} e o z) = ap zone_of e ∙ ap (option_map pos) (offset_from rest t o) ∙ ap Some (sym z)
zone_from text a (west {rest = rest} {time = t} e o z) = ap zone_of e ∙ ap (option_map (λ n. neg_ℤ (pos n))) (offset_from rest t o) ∙ ap Some (sym z)

zone_to : (text : List ℕ) (a : ℤ) → zone_of text ≡ Some a → IsZoneText text a
zone_to [] a e = absurd (cc)
zone_to (b ∷ bs) a e = by (eqb b 90) (eqb b 43) (eqb b 45) refl refl refl e
  where
    by : (u v w : Bool) → eqb b 90 ≡ u → eqb b 43 ≡ v → eqb b 45 ≡ w
        → cond u (cond (eqb (length bs) 0) (Some (pos 0)) None) (cond v (option_map pos (offset_of bs)) (cond w (option_map (λ n. neg_ℤ (pos n)) (offset_of bs)) None)) ≡ Some a
        → IsZoneText (b ∷ bs) a
    by true v w i j k e =
        let s = cond_some (eqb (length bs) 0) (pos 0) a e in
        utc ((λ l. eqb-true b 90 i l ∷ no_length bs (eqb-true (length bs) 0 s.0) l)) (sym s.1)
    by false true w i j k e = let m = map_some pos (offset_of bs) a e in east (ap (λ c. c ∷ bs) (eqb-true b 43 j)) (offset_to bs m.0 m.1) (sym m.2)
    by false false true i j k e =
        let m = map_some (λ (n : ℕ). neg_ℤ (pos n)) (offset_of bs) a e in west (ap (λ c. c ∷ bs) (eqb-true b 45 k)) (offset_to bs m.0 m.1) (sym m.2)
    by false false false i j k e = absurd (cc)

-- ---- the whole

canonical : (text : List ℕ) → IsMomentCut text (take 9 text) (take (fraction_length (drop 9 text)) (drop 9 text)) (drop (fraction_length (drop 9 text)) (drop 9 text))
canonical text = record { clock_is = refl; part_is = refl; zone_is = refl }

moment_from : (text : List ℕ) (z : ℤ) → IsMomentText text z → moment_of text ≡ Some z
moment_from text z h =
    let p = moment_parts text _ _ _ (canonical text) z h in
    let t = clock_from (take 9 text) h.time (subst (λ l. IsClockText l h.time) p.clock_is h.clock_is) in
    let m = fraction_from (take (fraction_length (drop 9 text)) (drop 9 text)) h.milliseconds (subst (λ l. IsFractionText l h.milliseconds) p.fraction_is h.fraction_is) in
    let a = zone_from (drop (fraction_length (drop 9 text)) (drop 9 text)) h.ahead (subst (λ l. IsZoneText l h.ahead) p.zone_is h.zone_is) in
    (λ i. option_and_then (λ time. option_and_then (λ milliseconds. option_map (λ ahead. pos (time + milliseconds) -ℤ ahead) (a i)) (m i)) (t i)) ∙ ap Some (sym h.value)

moment_to : (text : List ℕ) (z : ℤ) → moment_of text ≡ Some z → IsMomentText text z
moment_to text z e =
    let part = take (fraction_length (drop 9 text)) (drop 9 text) in let zone = drop (fraction_length (drop 9 text)) (drop 9 text) in
    let t = and_then_some (λ (time : ℕ). option_and_then (λ milliseconds. option_map (λ ahead. pos (time + milliseconds) -ℤ ahead) (zone_of zone)) (fraction_of part)) (clock_of (take 9 text)) z e in
    let m = and_then_some (λ (milliseconds : ℕ). option_map (λ ahead. pos (t.0 + milliseconds) -ℤ ahead) (zone_of zone)) (fraction_of part) z t.2 in
    let a = map_some (λ (ahead : ℤ). pos (t.0 + m.0) -ℤ ahead) (zone_of zone) z m.2 in
    moment_is text (take 9 text) part zone (canonical text) t.0 m.0 a.0 z (clock_to (take 9 text) t.0 t.1) (fraction_to part m.0 m.1) (zone_to zone a.0 a.1) (sym a.2)

pub value_from : (text : List ℕ) (z : ℤ) → IsDatetimeText text z → datetime_of text ≡ Some z
unfolding datetime_of
value_from text z (date {day = day} d e) =
    let n = date_length text day d in
    let all = take_all 10 text (omega arith) in
    let f = ap date_of all ∙ date_from text day d in
    let short = le-leb (length text) 10 (omega arith) in
    (λ i. option_and_then (λ day. cond (short i) (Some (day *ℤ pos 86400000)) (option_map (λ time. day *ℤ pos 86400000 +ℤ time) (moment_of (drop 10 text)))) (f i)) ∙ ap Some (sym e)
value_from text z (moment first rest day time p d m v) =
    let i = first_is text first rest day p d in
    let f = ap date_of i.0 ∙ date_from first day d in
    let g = ap moment_of i.1 ∙ moment_from rest time m in
    let long : leb (length text) 10 ≡ false = longer text first rest day time p d m in
    (λ i. option_and_then (λ day. cond (long i) (Some (day *ℤ pos 86400000)) (option_map (λ time. day *ℤ pos 86400000 +ℤ time) (g i))) (f i)) ∙ ap Some (sym v)
  where
    longer : (text first rest : List ℕ) (day time : ℤ) → text ≡ first ++ rest → IsDateText first day → IsMomentText rest time → leb (length text) 10 ≡ false
    longer text first rest day time p d m = by (leb (length text) 10) refl
      where
        by : (b : Bool) → leb (length text) 10 ≡ b → leb (length text) 10 ≡ false
        by false e = e
        by true e =
            let short = leb-true (length text) 10 e in
            let n = date_length first day d in
            let l : length text ≡ length first + length rest = ap (λ (b : List ℕ). length b) p ∙ length-append first rest in
            absurd (short_moment rest (omega arith) time m)

pub value_to : (text : List ℕ) (z : ℤ) → datetime_of text ≡ Some z → IsDatetimeText text z
unfolding datetime_of
value_to text z e =
    let d = and_then_some (λ (day : ℤ). cond (leb (length text) 10) (Some (day *ℤ pos 86400000)) (option_map (λ time. day *ℤ pos 86400000 +ℤ time) (moment_of (drop 10 text)))) (date_of (take 10 text)) z e in
    by (leb (length text) 10) refl d.0 (date_to (take 10 text) d.0 d.1) d.2
  where
    by : (b : Bool) → leb (length text) 10 ≡ b → (day : ℤ) → IsDateText (take 10 text) day
        → cond b (Some (day *ℤ pos 86400000)) (option_map (λ time. day *ℤ pos 86400000 +ℤ time) (moment_of (drop 10 text))) ≡ Some z → IsDatetimeText text z
    by true is day d e = date_alone text (take 10 text) day z refl (leb-true (length text) 10 is) d (let f : day *ℤ pos 86400000 ≡ z = cc in sym f)
    by false is day d e =
        let m = map_some (λ (time : ℤ). day *ℤ pos 86400000 +ℤ time) (moment_of (drop 10 text)) z e in
        date_and_moment text (take 10 text) (drop 10 text) day m.0 z refl refl d (moment_to (drop 10 text) m.0 m.1) (sym m.2)

pub datetime_read : {E : Type 0} (text : List ℕ) (r : Result ℤ E) → IfOk r (λ z. IsDatetimeText text z) → OnErr r ((z : ℤ) → IsDatetimeText text z → ⊥) → result_ok r ≡ datetime_of text
datetime_read text = read_by text (IsDatetimeText text) (datetime_of text) (value_from text) (value_to text)
