-- Whole days, the time of the day and the start of the day.
use Rattle.std.proofs.Common.{◌≡◌, ◌<◌, ◌≤◌, ◌-◌, ◌/◌, ◌^◌, ℤ, pos, negsuc, ◌-ℤ◌, ◌*ℤ◌, ◌≤ℤ◌, ◌↔◌, arith, ap, subst, SFits, ⊎_elim}
use Rattle.std.specs.Int.{w64}
use Rattle.std.proofs.lemmas.Bool.{cases_lt}
use Rattle.std.proofs.lemmas.Int.{ints}
use Rattle.sc_dates.specs.Days.{day, days_of, time_of, start_of, IsSplit}

pub split : (z : ℤ) → IsSplit z (days_of z) (time_of z)
split (pos n) = record { sum = omega (arith, ints); not_negative = omega (arith, ints); below_day = omega (arith, ints) }
split (negsuc n) = record { sum = omega (arith, ints); not_negative = omega (arith, ints); below_day = omega (arith, ints) }

pub only : (z d t : ℤ) → IsSplit z d t → (d ≡ days_of z) × (t ≡ time_of z)
only z d t h =
    let s = split z in
    (omega (arith, ints), omega (arith, ints))

pub greatest : (z d : ℤ) → (d *ℤ pos day) ≤ℤ z → (d *ℤ pos day) ≤ℤ start_of z
greatest z d h = let s = split z in omega (arith, ints)

pub start_is : (z : ℤ) → start_of z ≡ z -ℤ time_of z
start_is z = let s = split z in omega (arith, ints)

-- ---- where the start of the day leaves 64 bits

fits : (x : ℤ) → negsuc (2 ^ 63 - 1) ≤ℤ x → x ≤ℤ pos (2 ^ 63 - 1) → SFits w64 x
fits (pos n) low high = record { sfits = omega (arith, ints) }
fits (negsuc n) low high = record { sfits = omega (arith, ints) }

not_below : (x : ℤ) → SFits w64 x → negsuc (2 ^ 63 - 1) ≤ℤ x
not_below (pos n) f = omega (arith, ints)
not_below (negsuc n) f = let s = f.sfits in omega (arith, ints)

pub on_first_day : (z : ℤ) → SFits w64 z → (SFits w64 (start_of z) → ⊥) → days_of z ≡ negsuc 106751991167
on_first_day (pos n) f leaves =
    let s = f.sfits in
    absurd (leaves (fits (start_of (pos n)) (omega (arith, ints)) (omega (arith, ints))))
on_first_day (negsuc n) f leaves =
    let s = f.sfits in
    ⊎_elim
    (λ (l : n / day < 106751991167). absurd (leaves (fits (start_of (negsuc n)) (omega (arith, ints)) (omega (arith, ints)))))
    (λ (h : 106751991167 ≤ n / day). ap negsuc (omega arith)) (cases_lt (n / day) 106751991167)

pub first_leaves : (z : ℤ) → days_of z ≡ negsuc 106751991167 → SFits w64 (start_of z) → ⊥
first_leaves z e f =
    let b : negsuc (2 ^ 63 - 1) ≤ℤ (negsuc 106751991167 *ℤ pos day) =
    subst (λ d. negsuc (2 ^ 63 - 1) ≤ℤ (d *ℤ pos day)) e (not_below (start_of z) f) in
    omega (arith, ints)

pub leaves_on_first : (z : ℤ) → SFits w64 z → (SFits w64 (start_of z) → ⊥) ↔ (days_of z ≡ negsuc 106751991167)
leaves_on_first z f = (on_first_day z f, first_leaves z)
