-- The words of a script that stand for the whole days and the time of the day (SMT-LIB's theory of bit vectors).
use Rattle.std.specs.Prelude.{ℕ, ℤ, pos, negsuc, ◌+◌, ◌-◌, ◌/◌, ◌%◌, ◌==◌, int_lt, if◌then◌else◌}
use Rattle.sc_dates.specs.Days.{day}

-- `bvnot`
abbrev pub inverted : ℤ → ℤ
inverted (pos n) = negsuc n
inverted (negsuc n) = pos n

-- `bvsdiv` by a positive number: rounds toward 0
abbrev pub quotient : ℤ → ℕ → ℤ
quotient (pos n) d = pos (n / d)
quotient (negsuc n) d = if (n + 1) / d == 0 then pos 0 else negsuc ((n + 1) / d - 1)

-- `bvsmod` by a positive number: 0 or of the divisor's sign
abbrev pub modulus : ℤ → ℕ → ℤ
modulus (pos n) d = pos (n % d)
modulus (negsuc n) d = if (n + 1) % d == 0 then pos 0 else pos (d - (n + 1) % d)

abbrev pub script_days : ℤ → ℤ
script_days z = if int_lt z (pos 0) then inverted (quotient (inverted z) day) else quotient z day
