-- The words of a script give the whole days and the rest.
use Rattle.std.proofs.Common.{◌≡◌, ◌-◌, ◌/◌, ◌<◌, ◌≤◌, true, false, ℤ, pos, negsuc, ◌-ℤ◌, ◌*ℤ◌, ◌<ℤ◌, ◌≤ℤ◌, refl, ap, sym, ◌∙◌, arith, SFits, int_lt, cond, not, ◌&&◌, ⊎_elim, ◌^◌}
use Rattle.std.specs.Prelude.{int_le}
use Rattle.std.proofs.lemmas.Bool.{cases_lt}
use Rattle.std.proofs.lemmas.Bool.Decides.{nat_tests}
use Rattle.std.proofs.lemmas.Int.{ints}
use Rattle.std.specs.Int.{w64}
use Rattle.sc_bits.specs.Adders.{leaves64}
use Rattle.sc_dates.specs.Days.{day, days_of, time_of, start_of}
use Rattle.sc_day_laws.specs.ScriptWords.{script_days, modulus, quotient, inverted}
use Rattle.sc_dates.proofs.DayLaws.{start_is}
use Rattle.sc_day_laws.proofs.ClauseLaws.{less, not_less}

pub script_days_is : (z : ℤ) → script_days z ≡ days_of z
script_days_is (pos n) = ap (λ b. cond b (inverted (quotient (inverted (pos n)) day)) (quotient (pos n) day)) (not_less (pos n) (pos 0) (omega (arith, ints)))
script_days_is (negsuc n) = refl

pub script_time_is : (z : ℤ) → modulus z day ≡ time_of z
script_time_is (pos n) = refl
script_time_is (negsuc n) = grind (arith, nat_tests)

at_most : (a b : ℤ) → a ≤ℤ b → int_le a b ≡ true
at_most a b h = grind (arith, ints)

over : (a b : ℤ) → b <ℤ a → int_le a b ≡ false
over a b h = grind (arith, ints)

within : (z : ℤ) → negsuc (2 ^ 63 - 1) ≤ℤ z → z ≤ℤ pos (2 ^ 63 - 1) → leaves64 z ≡ false
within z low high =
    (λ i. not (at_most (negsuc (2 ^ 63 - 1)) z low i && at_most z (pos (2 ^ 63 - 1)) high i))

below : (z : ℤ) → z <ℤ negsuc (2 ^ 63 - 1) → leaves64 z ≡ true
below z h = (λ i. not (over (negsuc (2 ^ 63 - 1)) z h i && int_le z (pos (2 ^ 63 - 1))))

-- the start of the day leaves 64 bits just on the first day
pub leaves_on_first : (z : ℤ) → SFits w64 z → leaves64 (start_of z) ≡ int_lt (days_of z) (negsuc 106751991166)
leaves_on_first (pos n) f =
    let s = f.sfits in
    within (days_of (pos n) *ℤ pos day) (omega (arith, ints)) (omega (arith, ints)) ∙ sym (not_less (days_of (pos n)) (negsuc 106751991166) (omega (arith, ints)))
leaves_on_first (negsuc n) f =
    let s = f.sfits in
    ⊎_elim
    (λ (l : n / day < 106751991167). within (negsuc (n / day) *ℤ pos day) (omega (arith, ints)) (omega (arith, ints)) ∙ sym (not_less (negsuc (n / day)) (negsuc 106751991166) (omega (arith, ints))))
    (λ (h : 106751991167 ≤ n / day). below (negsuc (n / day) *ℤ pos day) (omega (arith, ints)) ∙ sym (less (negsuc (n / day)) (negsuc 106751991166) (omega (arith, ints))))
    (cases_lt (n / day) 106751991167)

pub leaves_alike : (z : ℤ) → leaves64 (start_of z) ≡ leaves64 (z -ℤ time_of z)
leaves_alike z = ap leaves64 (start_is z)
