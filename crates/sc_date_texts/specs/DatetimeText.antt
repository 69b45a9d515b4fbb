-- The texts of datetimes: which text stands for how many milliseconds since 1970-01-01T00:00:00Z. Bytes: 35 is `#`,
-- 43 `+`, 45 `-`, 46 `.`, 58 `:`, 84 `T`, 90 `Z`.
use Rattle.std.specs.Prelude.{◌≡◌, ℕ, ◌+◌, ◌*◌, ◌<◌, true, List, [], ◌∷◌, ◌++◌, ℤ, pos, neg_ℤ, ◌+ℤ◌, ◌-ℤ◌, ◌*ℤ◌}
use Rattle.jiff_core.specs.Calendar.{IsDate, days_from_civil}
use Rattle.sc_date_texts.specs.Forms.{fits, two_at, three_at, four_at}

-- `####-##-##`
abbrev pub date_form : List ℕ
date_form = 35 ∷ 35 ∷ 35 ∷ 35 ∷ 45 ∷ 35 ∷ 35 ∷ 45 ∷ 35 ∷ 35 ∷ []

-- `T##:##:##`
abbrev pub clock_form : List ℕ
clock_form = 84 ∷ 35 ∷ 35 ∷ 58 ∷ 35 ∷ 35 ∷ 58 ∷ 35 ∷ 35 ∷ []

-- `.###`
abbrev pub fraction_form : List ℕ
fraction_form = 46 ∷ 35 ∷ 35 ∷ 35 ∷ []

-- `####`
abbrev pub offset_form : List ℕ
offset_form = 35 ∷ 35 ∷ 35 ∷ 35 ∷ []

-- a date of the calendar, by its day number
pub record IsDateText (text : List ℕ) (day : ℤ) : Type 0 where
  pub form : fits date_form text ≡ true
  pub in_calendar : IsDate (pos (four_at text 0)) (pos (two_at text 5)) (pos (two_at text 8))
  pub day_is : day ≡ days_from_civil (pos (four_at text 0)) (two_at text 5) (two_at text 8)

-- hours, minutes and seconds, as milliseconds of the day
pub record IsClockText (text : List ℕ) (time : ℕ) : Type 0 where
  pub form : fits clock_form text ≡ true
  pub hour : two_at text 1 < 24
  pub minute : two_at text 4 < 60
  pub second : two_at text 7 < 60
  pub time_is : time ≡ two_at text 1 * 3600000 + two_at text 4 * 60000 + two_at text 7 * 1000

-- nothing, or a point and milliseconds
pub data IsFractionText : List ℕ → ℕ → Type 0 where
  whole : {text : List ℕ} {time : ℕ} → text ≡ [] → time ≡ 0 → IsFractionText text time
  fraction : {text : List ℕ} {time : ℕ} → fits fraction_form text ≡ true → time ≡ three_at text 1
      → IsFractionText text time

-- hours and minutes, as milliseconds
pub record IsOffsetText (text : List ℕ) (time : ℕ) : Type 0 where
  pub form : fits offset_form text ≡ true
  pub hour : two_at text 0 < 24
  pub minute : two_at text 2 < 60
  pub time_is : time ≡ two_at text 0 * 3600000 + two_at text 2 * 60000

-- how far the clock is ahead
pub data IsZoneText : List ℕ → ℤ → Type 0 where
  utc : {text : List ℕ} {ahead : ℤ} → text ≡ 90 ∷ [] → ahead ≡ pos 0 → IsZoneText text ahead
  east : {text rest : List ℕ} {time : ℕ} {ahead : ℤ} → text ≡ 43 ∷ rest → IsOffsetText rest time → ahead ≡ pos time
      → IsZoneText text ahead
  west : {text rest : List ℕ} {time : ℕ} {ahead : ℤ} → text ≡ 45 ∷ rest → IsOffsetText rest time
      → ahead ≡ neg_ℤ (pos time) → IsZoneText text ahead

-- the clock, perhaps a fraction, and the zone: milliseconds of the day in UTC, which may lie outside of it
pub record IsMomentText (text : List ℕ) (z : ℤ) : Type 0 where
  pub clock : List ℕ
  pub fraction : List ℕ
  pub zone : List ℕ
  pub parts : text ≡ clock ++ (fraction ++ zone)
  pub time : ℕ
  pub milliseconds : ℕ
  pub ahead : ℤ
  pub clock_is : IsClockText clock time
  pub fraction_is : IsFractionText fraction milliseconds
  pub zone_is : IsZoneText zone ahead
  pub value : z ≡ pos (time + milliseconds) -ℤ ahead

-- a date, perhaps with a moment of the day behind it
pub data IsDatetimeText : List ℕ → ℤ → Type 0 where
  date : {text : List ℕ} {day z : ℤ} → IsDateText text day → z ≡ day *ℤ pos 86400000 → IsDatetimeText text z
  moment : {text : List ℕ} {z : ℤ} (first rest : List ℕ) (day time : ℤ) → text ≡ first ++ rest
      → IsDateText first day → IsMomentText rest time
      → z ≡ day *ℤ pos 86400000 +ℤ time → IsDatetimeText text z
