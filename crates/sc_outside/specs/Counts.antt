-- Counts of faults: a failure is never answered without one, and none is passed over.
use Rattle.std.specs.Prelude.{◌≡◌, ℕ, ◌+◌, ◌-◌, ◌^◌, ◌<◌, ◌≤◌, min}

-- where a count stands still
abbrev pub last_count : ℕ
last_count = 2 ^ 64 - 1

-- the count after one more fault
abbrev pub next_count : ℕ → ℕ
next_count count = min (count + 1) last_count

-- there was a fault: the count went up, or stands at its last value
abbrev pub Rose : ℕ → ℕ → Type 0
Rose before now = next_count before ≤ now

-- what a call does to a count: it never falls, it rose where the call failed, and where it went up the call failed
pub record Counts (before now : ℕ) (failed : Type 0) : Type 0 where
  pub later : before ≤ now
  pub rose : failed → Rose before now
  pub told : before < now → failed

-- what a call does to a count of failed calls: one more where the call failed, else none
pub record CountsFailure (before now : ℕ) (failed : Type 0) : Type 0 where
  pub raised : failed → now ≡ next_count before
  pub kept : ¬ failed → now ≡ before
