-- Numbers of defining clauses that an assignment falsifies. No public promise speaks of it.
use Rattle.std.specs.Prelude.{◌≡◌, ◌-◌, ℕ, true, false, List, [], Option, Some, None}
use Rattle.std.specs.List.{slice_index_or}
use Rattle.sc_clauses.specs.Assignments.{Assignment, falsifies}
use Rattle.sc_clauses.specs.Clauses.{Clause}
use Rattle.th_defs.specs.Instances.{is_before_last}

-- the number of a clause before the last that is falsified; or none of these is
abbrev pub IsFalsifiedNumber : Assignment → List Clause → Option ℕ → Type 0
IsFalsifiedNumber m cs (Some n) = (is_before_last cs n ≡ true) × (falsifies m (slice_index_or cs (n - 1) []) ≡ true)
IsFalsifiedNumber m cs None = (n : ℕ) → is_before_last cs n ≡ true → falsifies m (slice_index_or cs (n - 1) []) ≡ false
