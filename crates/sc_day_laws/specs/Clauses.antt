-- The clauses that fix the whole days and the time of the day of a number in 64 bits, in which a product and a sum may
-- wrap.
use Rattle.std.specs.Prelude.{◌≡◌, true, false, ℤ, pos, negsuc, ◌+ℤ◌, ◌*ℤ◌, int_lt}
use Rattle.std.specs.Int.{w64, int_wrap}
use Rattle.sc_dates.specs.Days.{day}

-- the days of the least and of the greatest number of 64 bits
abbrev pub first_day : ℤ
first_day = negsuc 106751991167

abbrev pub last_day : ℤ
last_day = pos 106751991167

-- what the clauses say of three numbers of 64 bits, in which a product and a sum may wrap
pub record KeepsClauses (number days time : ℤ) : Type 0 where
  pub sum : int_wrap w64 (int_wrap w64 (days *ℤ pos day) +ℤ time) ≡ number
  pub not_negative : int_lt time (pos 0) ≡ false
  pub below_day : int_lt time (pos day) ≡ true
  pub not_before : int_lt days first_day ≡ false
  pub not_after : int_lt last_day days ≡ false
  pub sign : int_lt days (pos 0) ≡ int_lt number (pos 0)

-- all but the sign, which fix neither value near the ends
pub record KeepsUnsigned (number days time : ℤ) : Type 0 where
  pub sum : int_wrap w64 (int_wrap w64 (days *ℤ pos day) +ℤ time) ≡ number
  pub not_negative : int_lt time (pos 0) ≡ false
  pub below_day : int_lt time (pos day) ≡ true
  pub not_before : int_lt days first_day ≡ false
  pub not_after : int_lt last_day days ≡ false
