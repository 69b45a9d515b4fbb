-- Clauses in one array of literals. No public promise speaks of it.
use Rattle.std.specs.Prelude.{◌≤◌, ◌-◌, ◌==◌, ℕ, List, [], ◌∷◌, take, drop, length, slice_get, unwrap_or, if◌then◌else◌}
use Rattle.sc_clauses.specs.declared.lit.Lit.{Lit}
use Rattle.sc_clauses.specs.Clauses.{Clause}

-- the literals from one place up to the next, and so on
unfoldable pub cut : List Lit → ℕ → List ℕ → List Clause
cut ls from [] = []
cut ls from (end ∷ ends) = take (end - from) (drop from ls) ∷ cut ls end ends

-- ends don't fall, and are places of the array
unfoldable pub AreEnds : List Lit → ℕ → List ℕ → Type 0
AreEnds ls from [] = from ≤ length ls
AreEnds ls from (end ∷ ends) = (from ≤ end) × AreEnds ls end ends

-- where a clause begins, also the next one: where the one before it ends
abbrev pub start_at : List ℕ → ℕ → ℕ
start_at ends place = if place == 0 then 0 else unwrap_or (slice_get ends (place - 1)) 0
