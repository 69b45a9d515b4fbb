-- A text stands for one datetime at most.
use Rattle.std.proofs.Common.{◌≡◌, ℕ, ◌+◌, List, [], ◌∷◌, ◌++◌, length, take, drop, refl, ap, sym, ◌∙◌, arith, subst, ℤ, pos, neg_ℤ, ◌+ℤ◌, ◌-ℤ◌, ◌*ℤ◌}
use Rattle.std.proofs.lemmas.List.{length-append}
use Rattle.sc_date_texts.specs.Moments.{fraction_length}
use Rattle.sc_date_texts.specs.DatetimeText.{fraction_form, IsDateText, IsClockText, IsFractionText, whole, fraction, IsOffsetText, IsZoneText, utc, east, west, IsMomentText, IsDatetimeText, date, moment}
use Rattle.sc_date_texts.proofs.FormLaws.{fits_length}
use Rattle.sc_date_texts.proofs.MomentLaws.{IsMomentCut, moment_parts, date_length, first_is, short_moment}

date_only : (text : List ℕ) (a b : ℤ) → IsDateText text a → IsDateText text b → a ≡ b
date_only text a b x y = x.day_is ∙ sym y.day_is

clock_only : (text : List ℕ) (a b : ℕ) → IsClockText text a → IsClockText text b → a ≡ b
clock_only text a b x y = x.time_is ∙ sym y.time_is

offset_only : (text : List ℕ) (a b : ℕ) → IsOffsetText text a → IsOffsetText text b → a ≡ b
offset_only text a b x y = x.time_is ∙ sym y.time_is

fraction_only : (text : List ℕ) (a b : ℕ) → IsFractionText text a → IsFractionText text b → a ≡ b
fraction_only text a b (whole e x) (whole f y) = x ∙ sym y
fraction_only text a b (whole e x) (fraction f y) = absurd (let l = fits_length fraction_form text f in let n : length text ≡ 0 = ap (λ (t : List ℕ). length t) e in omega arith)
fraction_only text a b (fraction f x) (whole e y) = absurd (let l = fits_length fraction_form text f in let n : length text ≡ 0 = ap (λ (t : List ℕ). length t) e in omega arith)
fraction_only text a b (fraction e x) (fraction f y) = x ∙ sym y

-- behind the same first byte stands the same offset
same_offset : (f : ℕ) (text xs ys : List ℕ) (m n : ℕ) → text ≡ f ∷ xs → text ≡ f ∷ ys → IsOffsetText xs m → IsOffsetText ys n → m ≡ n
same_offset f text xs ys m n d e x y =
    let same : xs ≡ ys = cc in
    offset_only ys m n (subst (λ l. IsOffsetText l m) same x) y

other_first : (f g : ℕ) (text xs ys : List ℕ) → text ≡ f ∷ xs → text ≡ g ∷ ys → f ≡ g
other_first f g text xs ys d e = cc

zone_only : (text : List ℕ) (a b : ℤ) → IsZoneText text a → IsZoneText text b → a ≡ b
zone_only text a b (utc d x) (utc e y) = x ∙ sym y
zone_only text a b (utc d x) (east {rest = r} e o y) = absurd (let f = other_first 90 43 text [] r d e in omega arith)
zone_only text a b (utc d x) (west {rest = r} e o y) = absurd (let f = other_first 90 45 text [] r d e in omega arith)
zone_only text a b (east {rest = r} d o x) (utc e y) = absurd (let f = other_first 43 90 text r [] d e in omega arith)
zone_only text a b (east {rest = r} {time = m} d o x) (east {rest = s} {time = n} e p y) = x ∙ ap pos (same_offset 43 text r s m n d e o p) ∙ sym y
zone_only text a b (east {rest = r} d o x) (west {rest = s} e p y) = absurd (let f = other_first 43 45 text r s d e in omega arith)
zone_only text a b (west {rest = r} d o x) (utc e y) = absurd (let f = other_first 45 90 text r [] d e in omega arith)
zone_only text a b (west {rest = r} d o x) (east {rest = s} e p y) = absurd (let f = other_first 45 43 text r s d e in omega arith)
zone_only text a b (west {rest = r} {time = m} d o x) (west {rest = s} {time = n} e p y) = x ∙ ap (λ k. neg_ℤ (pos k)) (same_offset 45 text r s m n d e o p) ∙ sym y

moment_only : (text : List ℕ) (a b : ℤ) → IsMomentText text a → IsMomentText text b → a ≡ b
moment_only text a b x y =
    let rest = drop 9 text in
    let c : IsMomentCut text (take 9 text) (take (fraction_length rest) rest) (drop (fraction_length rest) rest) = record { clock_is = refl; part_is = refl; zone_is = refl } in
    let p = moment_parts text (take 9 text) (take (fraction_length rest) rest) (drop (fraction_length rest) rest) c a x in
    let q = moment_parts text (take 9 text) (take (fraction_length rest) rest) (drop (fraction_length rest) rest) c b y in
    let t = clock_only y.clock x.time y.time (subst (λ l. IsClockText l x.time) (p.clock_is ∙ sym q.clock_is) x.clock_is) y.clock_is in
    let m = fraction_only y.fraction x.milliseconds y.milliseconds (subst (λ l. IsFractionText l x.milliseconds) (p.fraction_is ∙ sym q.fraction_is) x.fraction_is) y.fraction_is in
    let z = zone_only y.zone x.ahead y.ahead (subst (λ l. IsZoneText l x.ahead) (p.zone_is ∙ sym q.zone_is) x.zone_is) y.zone_is in
    x.value ∙ (λ i. pos (t i + m i) -ℤ z i) ∙ sym y.value

-- a date alone has no room for a moment
no_room : (text first rest : List ℕ) (day other time : ℤ) → IsDateText text day → text ≡ first ++ rest → IsDateText first other → IsMomentText rest time → ⊥
no_room text first rest day other time d e f m =
    let l = date_length text day d in
    let k = date_length first other f in
    let n : length text ≡ length first + length rest = ap (λ (b : List ℕ). length b) e ∙ length-append first rest in
    short_moment rest (omega arith) time m

pub datetime_only : (text : List ℕ) (y z : ℤ) → IsDatetimeText text y → IsDatetimeText text z → y ≡ z
datetime_only text y z (date {day = a} d e) (date {day = b} f g) = e ∙ ap (λ k. k *ℤ pos 86400000) (date_only text a b d f) ∙ sym g
datetime_only text y z (date {day = a} d e) (moment first rest day time p f m v) = absurd (no_room text first rest a day time d p f m)
datetime_only text y z (moment first rest day time p f m v) (date {day = a} d e) = absurd (no_room text first rest a day time d p f m)
datetime_only text y z (moment first rest day time p f m v) (moment other later b t q g n w) =
    let i = first_is text first rest day p f in
    let j = first_is text other later b q g in
    let d = date_only other day b (subst (λ l. IsDateText l day) (sym i.0 ∙ j.0) f) g in
    let u = moment_only later time t (subst (λ l. IsMomentText l time) (sym i.1 ∙ j.1) m) n in
    v ∙ (λ k. d k *ℤ pos 86400000 +ℤ u k) ∙ sym w
