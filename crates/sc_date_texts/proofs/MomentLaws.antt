-- Where the parts of a datetime begin and end.
use Rattle.std.proofs.Common.{◌≡◌, ℕ, ◌+◌, ◌<◌, ◌≤◌, true, false, cond, List, [], ◌∷◌, ◌++◌, length, take, drop, refl, ap, sym, ◌∙◌, arith, subst, ℤ, pos, ◌+ℤ◌, ◌-ℤ◌, ◌*ℤ◌}
use Rattle.std.specs.Prelude.{◌==◌}
use Rattle.std.proofs.lemmas.List.{take-append-drop, length-append, take_all}
use Rattle.std.proofs.Math.Seq.{take-append_seam, drop-append_seam}
use Rattle.sc_date_texts.specs.Forms.{fits}
use Rattle.sc_date_texts.specs.Moments.{fraction_length}
use Rattle.sc_date_texts.specs.DatetimeText.{date_form, clock_form, fraction_form, IsDateText, IsClockText, IsFractionText, whole, fraction, IsZoneText, utc, east, west, IsMomentText, IsDatetimeText, date, moment}
use Rattle.sc_date_texts.proofs.FormLaws.{both, fits_length}

-- ---- a fraction is told from a zone

first_of_fraction : (text rest : List ℕ) → fits fraction_form text ≡ true → fraction_length (text ++ rest) ≡ 4
unfolding fits
first_of_fraction [] rest h = absurd cc
first_of_fraction (a ∷ []) rest h = absurd (let l = fits_length fraction_form (a ∷ []) h in omega arith)
first_of_fraction (a ∷ b ∷ []) rest h = absurd (let l = fits_length fraction_form (a ∷ b ∷ []) h in omega arith)
first_of_fraction (a ∷ b ∷ c ∷ []) rest h = absurd (let l = fits_length fraction_form (a ∷ b ∷ c ∷ []) h in omega arith)
first_of_fraction (a ∷ b ∷ c ∷ d ∷ others) rest h = ap (λ t. cond t 4 0) (both _ _ h).0

no_point : (first : ℕ) (rest : List ℕ) → (first == 46) ≡ false → fraction_length (first ∷ rest) ≡ 0
no_point first [] e = refl
no_point first (a ∷ []) e = refl
no_point first (a ∷ b ∷ []) e = refl
no_point first (a ∷ b ∷ c ∷ rest) e = ap (λ t. cond t 4 0) e

zone_has_no_point : (text : List ℕ) (ahead : ℤ) → IsZoneText text ahead → fraction_length text ≡ 0
zone_has_no_point text ahead (utc e z) = ap fraction_length e
zone_has_no_point text ahead (east {rest = rest} e o z) = ap fraction_length e ∙ no_point 43 rest refl
zone_has_no_point text ahead (west {rest = rest} e o z) = ap fraction_length e ∙ no_point 45 rest refl

fraction_ends : (text zone : List ℕ) (time : ℕ) (ahead : ℤ) → IsFractionText text time → IsZoneText zone ahead → fraction_length (text ++ zone) ≡ length text
fraction_ends text zone time ahead (whole e t) z =
    subst (λ l. fraction_length (l ++ zone) ≡ length l) (sym e) (zone_has_no_point zone ahead z)
fraction_ends text zone time ahead (fraction f t) z = first_of_fraction text zone f ∙ sym (fits_length fraction_form text f)

-- ---- the parts of a moment

pub record IsMomentCut (text clock part zone : List ℕ) : Type 0 where
  pub clock_is : clock ≡ take 9 text
  pub part_is : part ≡ take (fraction_length (drop 9 text)) (drop 9 text)
  pub zone_is : zone ≡ drop (fraction_length (drop 9 text)) (drop 9 text)

pub record AreParts (text clock part zone : List ℕ) (z : ℤ) (h : IsMomentText text z) : Type 0 where
  pub clock_is : h.clock ≡ clock
  pub fraction_is : h.fraction ≡ part
  pub zone_is : h.zone ≡ zone

pub moment_parts : (text clock part zone : List ℕ) → IsMomentCut text clock part zone → (z : ℤ) (h : IsMomentText text z) → AreParts text clock part zone z h
moment_parts text clock part zone c z h =
    let n : 9 ≡ length h.clock = sym (fits_length clock_form h.clock h.clock_is.form) in
    let first : take 9 text ≡ h.clock = (λ i. take (n i) (h.parts i)) ∙ take-append_seam h.clock (h.fraction ++ h.zone) in
    let rest : drop 9 text ≡ h.fraction ++ h.zone = (λ i. drop (n i) (h.parts i)) ∙ drop-append_seam h.clock (h.fraction ++ h.zone) in
    let k : fraction_length (drop 9 text) ≡ length h.fraction = ap fraction_length rest ∙ fraction_ends h.fraction h.zone h.milliseconds h.ahead h.fraction_is h.zone_is in
    record {
      clock_is = sym (c.clock_is ∙ first);
      fraction_is = sym (c.part_is ∙ (λ i. take (k i) (rest i)) ∙ take-append_seam h.fraction h.zone);
      zone_is = sym (c.zone_is ∙ (λ i. drop (k i) (rest i)) ∙ drop-append_seam h.fraction h.zone);
    }

pub cut_is : (text clock rest part zone : List ℕ) (n : ℕ) → clock ≡ take 9 text → rest ≡ drop 9 text → n ≡ fraction_length rest → part ≡ take n rest → zone ≡ drop n rest
    → IsMomentCut text clock part zone
cut_is text clock rest part zone n c r k p z = record {
  clock_is = c;
  part_is = p ∙ (λ i. take ((k ∙ ap fraction_length r) i) (r i));
  zone_is = z ∙ (λ i. drop ((k ∙ ap fraction_length r) i) (r i));
}

pub short_moment : (text : List ℕ) → length text < 9 → (z : ℤ) → IsMomentText text z → ⊥
short_moment text short z h =
    let n = fits_length clock_form h.clock h.clock_is.form in
    let l : length text ≡ length h.clock + length (h.fraction ++ h.zone) = ap (λ (b : List ℕ). length b) h.parts ∙ length-append h.clock (h.fraction ++ h.zone) in
    omega arith

module _ (text clock part zone : List ℕ) (c : IsMomentCut text clock part zone) where
  pub no_clock : ((time : ℕ) → IsClockText clock time → ⊥) → (z : ℤ) → IsMomentText text z → ⊥
  no_clock none z h = none h.time (subst (λ t. IsClockText t h.time) (moment_parts text clock part zone c z h).clock_is h.clock_is)

  pub no_fraction : ((time : ℕ) → IsFractionText part time → ⊥) → (z : ℤ) → IsMomentText text z → ⊥
  no_fraction none z h = none h.milliseconds (subst (λ t. IsFractionText t h.milliseconds) (moment_parts text clock part zone c z h).fraction_is h.fraction_is)

  pub no_zone : ((ahead : ℤ) → IsZoneText zone ahead → ⊥) → (z : ℤ) → IsMomentText text z → ⊥
  no_zone none z h = none h.ahead (subst (λ t. IsZoneText t h.ahead) (moment_parts text clock part zone c z h).zone_is h.zone_is)

  pub moment_is : (time milliseconds : ℕ) (ahead z : ℤ) → IsClockText clock time → IsFractionText part milliseconds → IsZoneText zone ahead
      → z ≡ pos (time + milliseconds) -ℤ ahead → IsMomentText text z
  moment_is time milliseconds ahead z h f a e =
      let rest = take-append-drop (fraction_length (drop 9 text)) (drop 9 text) in
      record {
        clock = clock;
        fraction = part;
        zone = zone;
        parts = sym ((λ i. c.clock_is i ++ (c.part_is i ++ c.zone_is i)) ∙ ap (λ r. take 9 text ++ r) rest ∙ take-append-drop 9 text);
        time = time;
        milliseconds = milliseconds;
        ahead = ahead;
        clock_is = h;
        fraction_is = f;
        zone_is = a;
        value = e;
      }

-- ---- the date before it

pub date_length : (text : List ℕ) (day : ℤ) → IsDateText text day → length text ≡ 10
date_length text day h = fits_length date_form text h.form

pub first_is : (text first rest : List ℕ) (day : ℤ) → text ≡ first ++ rest → IsDateText first day → (take 10 text ≡ first) × (drop 10 text ≡ rest)
first_is text first rest day e h =
    let n : 10 ≡ length first = sym (date_length first day h) in
    ((λ i. take (n i) (e i)) ∙ take-append_seam first rest, (λ i. drop (n i) (e i)) ∙ drop-append_seam first rest)

pub short_text : (text : List ℕ) → length text < 10 → (z : ℤ) → IsDatetimeText text z → ⊥
short_text text short z (date {day = day} d e) = let n = date_length text day d in omega arith
short_text text short z (moment first rest day time e d m v) =
    let n = date_length first day d in
    let l : length text ≡ length first + length rest = ap (λ (b : List ℕ). length b) e ∙ length-append first rest in
    omega arith

pub no_date : (text first : List ℕ) → first ≡ take 10 text → ((day : ℤ) → IsDateText first day → ⊥) → (z : ℤ) → IsDatetimeText text z → ⊥
no_date text first f none z (date {day = day} d e) =
    none day (subst (λ t. IsDateText t day) (sym (f ∙ take_all 10 text (let n = date_length text day d in omega arith))) d)
no_date text first f none z (moment start rest day time e d m v) =
    none day (subst (λ t. IsDateText t day) (sym (f ∙ (first_is text start rest day e d).0)) d)

pub no_moment : (text rest : List ℕ) → rest ≡ drop 10 text → 10 < length text → ((time : ℤ) → IsMomentText rest time → ⊥) → (z : ℤ) → IsDatetimeText text z → ⊥
no_moment text rest r long none z (date {day = day} d e) = let n = date_length text day d in omega arith
no_moment text rest r long none z (moment start later day time e d m v) =
    none time (subst (λ t. IsMomentText t time) (sym (r ∙ (first_is text start later day e d).1)) m)

pub date_alone : (text first : List ℕ) (day z : ℤ) → first ≡ take 10 text → length text ≤ 10 → IsDateText first day → z ≡ day *ℤ pos 86400000 → IsDatetimeText text z
date_alone text first day z f short d e = date (subst (λ t. IsDateText t day) (f ∙ take_all 10 text short) d) e

pub date_and_moment : (text first rest : List ℕ) (day time z : ℤ) → first ≡ take 10 text → rest ≡ drop 10 text → IsDateText first day → IsMomentText rest time
    → z ≡ day *ℤ pos 86400000 +ℤ time → IsDatetimeText text z
date_and_moment text first rest day time z f r d m e = moment first rest day time (sym ((λ i. f i ++ r i) ∙ take-append-drop 10 text)) d m e
