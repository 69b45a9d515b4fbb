-- Places among the clauses of an item, and among those that are kept. No public promise speaks of it.
use Rattle.std.specs.Prelude.{◌≡◌, ◌<◌, ◌≤◌, ◌-◌, ℕ, List, [], true, false, Option, Some, None, length}
use Rattle.std.specs.List.{AllByRecursion, slice_index_or}
use Rattle.sc_clauses.specs.Assignments.{Assignment, falsifies}
use Rattle.sc_clauses.specs.Clauses.{Clause}
use Rattle.sc_footprint.specs.Problems.{Posed}
use Rattle.th_defs.specs.declared.item.Item.{Item}
use Rattle.th_defs.specs.Items.{item_clauses, clause_at, kept_clauses}

-- the number of a clause that is falsified; or none is
abbrev pub IsFirstFalsified : Assignment → List Clause → Option ℕ → Type 0
IsFirstFalsified m cs (Some n) = (0 < n) × (n ≤ length cs) × (falsifies m (slice_index_or cs (n - 1) []) ≡ true)
IsFirstFalsified m cs None = AllByRecursion (λ c. falsifies m c ≡ false) cs

-- the place of the clause of a number among those that are kept; or there are fewer
abbrev pub IsPlaceOf : Posed → Item → ℕ → Option ℕ → Type 0
IsPlaceOf p i n (Some k) = (k < length (item_clauses p i))
    × (clause_at p i k ≡ slice_index_or (kept_clauses p i) (n - 1) [])
IsPlaceOf p i n None = length (kept_clauses p i) < n
