-- Gaps: a start is joined to a middle, the middle to an end, and the start is known not to be joined to that end.
use Rattle.std.specs.Prelude.{◌≡◌, ℕ, ◌<◌, Bool, true, false, List, length, get_or, Option, Some, None}
use Rattle.sc_falsified.specs.Truths.{Truth}

-- a is joined to b, b to c, and a is known not to be joined to c
pub record IsGap (first second third : Truth) (a b c : ℕ) : Type 0 where
  pub joined : first a b ≡ Some true
  pub goes_on : second b c ≡ Some true
  pub apart : third a c ≡ Some false

-- there is no gap
abbrev pub NoGap : Truth → Truth → Truth → ℕ → ℕ → ℕ → Type 0
NoGap first second third starts middles ends = (a b c : ℕ) → a < starts → b < middles → c < ends
    → ¬ (IsGap first second third a b c)

-- ---- the search for one

-- a row: what is known of a middle and each end
pub record IsReach (second : Truth) (ends b : ℕ) (reach : List (Option Bool)) : Type 0 where
  pub sized : length reach ≡ ends
  pub at : (c : ℕ) → c < ends → get_or reach c None ≡ second b c

-- none of the first ends of a row is reached
unfoldable pub ReachesNone : List (Option Bool) → ℕ → Type 0
ReachesNone reach n = (c : ℕ) → c < n → ¬ (get_or reach c None ≡ Some true)

-- no gap by this start and middle
unfoldable pub NoEnd : Truth → Truth → ℕ → ℕ → ℕ → Type 0
NoEnd second third ends a b = (c : ℕ) → c < ends → second b c ≡ Some true → ¬ (third a c ≡ Some false)

-- no gap by this middle and any start
unfoldable pub NoStart : Truth → Truth → Truth → ℕ → ℕ → ℕ → Type 0
NoStart first second third starts ends b = (a : ℕ) → a < starts → first a b ≡ Some true → NoEnd second third ends a b

-- no gap by any of the first middles
unfoldable pub NoMiddle : Truth → Truth → Truth → ℕ → ℕ → ℕ → Type 0
NoMiddle first second third starts middles ends = (b : ℕ) → b < middles → NoStart first second third starts ends b
