-- The text that is written of a datetime: the date, the clock with milliseconds, and `Z`, where the year is from 0 to
-- 9999; else `ms:` and the number of milliseconds. Bytes: 45 is `-`, 46 `.`, 58 `:`, 84 `T`, 90 `Z`.
use Rattle.std.specs.Prelude.{◌≡◌, ℕ, ◌+◌, ◌/◌, ◌%◌, ◌<◌, List, [], ◌∷◌, ◌++◌, ℤ, pos, neg_ℤ, ◌+ℤ◌, ◌*ℤ◌, ◌≤ℤ◌}
use Rattle.std.specs.Fmt.{signed_decimal}
use Rattle.jiff_core.specs.Calendar.{IsCivilDate, days_from_civil}

abbrev pub two_digits : ℕ → List ℕ
two_digits n = (48 + n / 10) ∷ (48 + n % 10) ∷ []

abbrev pub three_digits : ℕ → List ℕ
three_digits n = (48 + n / 100) ∷ (48 + n / 10 % 10) ∷ (48 + n % 10) ∷ []

abbrev pub four_digits : ℕ → List ℕ
four_digits n = (48 + n / 1000) ∷ (48 + n / 100 % 10) ∷ (48 + n / 10 % 10) ∷ (48 + n % 10) ∷ []

abbrev pub date_text : ℕ → ℕ → ℕ → List ℕ
date_text year month day = four_digits year ++ (45 ∷ (two_digits month ++ (45 ∷ two_digits day)))

-- of the milliseconds of a day
abbrev pub clock_text : ℕ → List ℕ
clock_text time =
    84 ∷ (two_digits (time / 3600000)
    ++ (58 ∷ (two_digits (time / 60000 % 60) ++ (58 ∷ two_digits (time / 1000 % 60)))))

abbrev pub fraction_text : ℕ → List ℕ
fraction_text time = 46 ∷ three_digits (time % 1000)

abbrev pub moment_text : ℕ → List ℕ
moment_text time = clock_text time ++ (fraction_text time ++ (90 ∷ []))

-- a date of the years 0 to 9999 and a time of that day make up the number
pub record IsCivil (z : ℤ) (year month day time : ℕ) : Type 0 where
  pub in_calendar : IsCivilDate (pos year) month day
  pub below_day : time < 86400000
  pub sum : z ≡ days_from_civil (pos year) month day *ℤ pos 86400000 +ℤ pos time

-- from 0000-01-01T00:00:00.000Z to 9999-12-31T23:59:59.999Z
abbrev pub IsInYears : ℤ → Type 0
IsInYears z = (neg_ℤ (pos 62167219200000) ≤ℤ z) × (z ≤ℤ pos 253402300799999)

-- the text that is written of a number
pub data IsWritten : ℤ → List ℕ → Type 0 where
  civil : {z : ℤ} {text : List ℕ} (year month day time : ℕ) → IsCivil z year month day time
      → text ≡ date_text year month day ++ moment_text time → IsWritten z text
  other : {z : ℤ} {text : List ℕ} → ((year month day time : ℕ) → IsCivil z year month day time → ⊥)
      → text ≡ 109 ∷ 115 ∷ 58 ∷ signed_decimal z → IsWritten z text
