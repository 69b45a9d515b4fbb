-- What two calls, one after the other, do to a count.
use Rattle.std.proofs.Common.{◌≡◌, ◌≤◌, ◌<◌, ℕ, List, Option, ⊎_elim, subst, arith}
use Rattle.std.proofs.Math.Nat.{eq-or-lt_of_le}
use Rattle.sc_outside.specs.Counts.{Rose}
use Rattle.sc_outside.specs.Failures.{FailedAt}

-- a count that rose since it was read once rose since it was read before
pub rose_before : (before mid now : ℕ) → before ≤ mid → Rose mid now → Rose before now
rose_before before mid now h r = omega (arith, h, r)

-- a call that failed since the count was read once failed since it was read before
pub failed_before : (before mid now : ℕ) (failed : Option (List ℕ)) → before ≤ mid → (name : List ℕ) → FailedAt mid now failed name → FailedAt before now failed name
failed_before before mid now failed h name at = record { rose = rose_before before mid now h at.rose; last = at.last }

-- a count that didn't go up stands still
pub stands : (before now : ℕ) → before ≤ now → (before < now → ⊥) → before ≡ now
stands before now h calm = ⊎_elim (λ (e : before ≡ now). e) (λ (up : before < now). absurd (calm up)) (eq-or-lt_of_le h)

-- where it stood still at first, it went up only where it did later
pub told_later : {P : Type 0} (before mid now : ℕ) → before ≡ mid → (mid < now → P) → before < now → P
told_later {P} before mid now still told up = told (subst (λ (k : ℕ). k < now) still up)
