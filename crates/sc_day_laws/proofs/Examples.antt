-- The definitions at numbers, and what the clause on signs is for.
use Rattle.std.proofs.Common.{◌≡◌, pos, negsuc, refl}
use Rattle.std.specs.Int.{int_wrap}
use Rattle.sc_dates.specs.Days.{days_of, time_of}
use Rattle.sc_day_laws.specs.Clauses.{KeepsUnsigned, KeepsClauses}

before : days_of (negsuc 0) ≡ negsuc 0
before = refl

last_millisecond : time_of (negsuc 0) ≡ pos 86399999
last_millisecond = refl

-- at the least number the product wraps, and the sum wraps back
least : KeepsClauses (negsuc 9223372036854775807) (negsuc 106751991167) (pos 60424192)
unfolding int_wrap
least = record { sum = refl; not_negative = refl; below_day = refl; not_before = refl; not_after = refl; sign = refl }

-- without the clause on signs the least number is also 2 ^ 63 - which is no number of 64 bits - taken apart
least_otherwise : KeepsUnsigned (negsuc 9223372036854775807) (pos 106751991167) (pos 25975808)
unfolding int_wrap
least_otherwise = record { sum = refl; not_negative = refl; below_day = refl; not_before = refl; not_after = refl }
