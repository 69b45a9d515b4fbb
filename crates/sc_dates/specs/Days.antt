-- A number of milliseconds as whole days and the time of the day. Days are counted downwards before 0, so that the time
-- of the day is never negative.
use Rattle.std.specs.Prelude.{◌≡◌, ℕ, ℤ, pos, ◌+ℤ◌, ◌*ℤ◌, ◌<ℤ◌, ◌≤ℤ◌}
use Rattle.std.specs.Int.{int_div_euclid, int_rem_euclid}

-- the milliseconds of a day
abbrev pub day : ℕ
day = 86400000

-- the whole days of a number of milliseconds, and what is over
abbrev pub days_of : ℤ → ℤ
days_of z = int_div_euclid z (pos day)

abbrev pub time_of : ℤ → ℤ
time_of z = int_rem_euclid z (pos day)

-- the start of the day: the greatest multiple of a day that isn't above
abbrev pub start_of : ℤ → ℤ
start_of z = days_of z *ℤ pos day

-- a number is so many days and a time of less than a day
pub record IsSplit (number days time : ℤ) : Type 0 where
  pub sum : days *ℤ pos day +ℤ time ≡ number
  pub not_negative : pos 0 ≤ℤ time
  pub below_day : time <ℤ pos day
