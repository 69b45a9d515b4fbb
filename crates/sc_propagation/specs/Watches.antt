-- The two watched literals of each clause.
use Rattle.std.specs.Prelude.{◌≡◌, ◌≢◌, ◌⊎◌, ◌+◌, ◌++◌, ◌<◌, ◌≤◌, ℕ, List, [], ◌∷◌, Bool, length, slice_set, Option, Some, None}
use Rattle.std.specs.List.{Contains, slice_index_or, swap_remove}
use Rattle.sc_clauses.specs.declared.lit.Lit.{Lit}
use Rattle.sc_propagation.specs.declared.lists.Lists.{Lists}
use Rattle.sc_propagation.specs.declared.watches.Watch.{Watch}
use Rattle.sc_propagation.specs.declared.watches.Watches.{Watches}
use Rattle.sc_propagation.specs.Lists.{lists_of, places_of, AreEmpty, IsListSet}

-- the watched literals of the clause at place i
abbrev pub watch_in : List (Option Watch) → ℕ → Option Watch
watch_in pairs i = slice_index_or pairs i None

abbrev pub watch_of : Watches → ℕ → Option Watch
watch_of w i = watch_in w.pairs.items i

abbrev pub IsWatched : Option Watch → Lit → Type 0
IsWatched None l = ⊥
IsWatched (Some w) l = (l ≡ w.first) ⊎ (l ≡ w.second)

-- no clause watches anything, and all lists are empty
pub record AreUnset (n count : ℕ) (w : Watches) : Type 0 where
  pub paired : length w.pairs.items ≡ count
  pub unset : (i : ℕ) → watch_of w i ≡ None
  pub empty : AreEmpty n w.lists

-- the clause is appended to the literal's list, unless it watches the literal
pub record IsListedToo (place : ℕ) (lit : Lit) (was : Option Watch) (old new : Lists) : Type 0 where
  pub sizes : (sign : Bool) → length (lists_of new sign) ≡ length (lists_of old sign)
  pub kept : (l : Lit) (i : ℕ) → Contains (places_of old l) i → Contains (places_of new l) i
  pub added : Contains (places_of new lit) place ⊎ IsWatched was lit
  pub only : (l : Lit) (i : ℕ) → Contains (places_of new l) i → Contains (places_of old l) i ⊎ (i ≡ place)
  pub elsewhere : (l : Lit) → l ≢ lit → places_of new l ≡ places_of old l
  pub same : IsWatched was lit → places_of new lit ≡ places_of old lit

-- the clause at a place watches these two, and stands in the list of each that it didn't watch already
pub record IsRewatched (place : ℕ) (watch : Watch) (pairs : List (Option Watch)) (old : Lists)
    (new : Watches) : Type 0 where
  pub pairs_set : new.pairs.items ≡ slice_set pairs place (Some watch)
  pub sizes : (sign : Bool) → length (lists_of new.lists sign) ≡ length (lists_of old sign)
  pub kept : (l : Lit) (i : ℕ) → Contains (places_of old l) i → Contains (places_of new.lists l) i
  pub added : (l : Lit) → IsWatched (Some watch) l → Contains (places_of new.lists l) place
      ⊎ IsWatched (watch_in pairs place) l
  pub only : (l : Lit) (i : ℕ) → Contains (places_of new.lists l) i → Contains (places_of old l) i ⊎ (i ≡ place)
  pub elsewhere : (l : Lit) → ¬ IsWatched (Some watch) l → places_of new.lists l ≡ places_of old l
  pub same : (l : Lit) → (IsWatched (Some watch) l → IsWatched (watch_in pairs place) l)
      → places_of new.lists l ≡ places_of old l

-- one more clause, which watches these
abbrev pub IsAdded : Option Watch → Watches → Watches → Type 0
IsAdded None old new = (new.pairs.items ≡ old.pairs.items ++ None ∷ []) × (new.lists ≡ old.lists)
IsAdded (Some watch) old new = IsRewatched (length old.pairs.items) watch (old.pairs.items ++ None ∷ []) old.lists new

-- the element at a place of the list, or none behind its end
abbrev pub IsPlaceAt : List ℕ → ℕ → Option ℕ → Type 0
IsPlaceAt ps at None = length ps ≤ at
IsPlaceAt ps at (Some i) = (at < length ps) × (slice_index_or ps at 0 ≡ i)

-- the clause watches the literal, and the next place follows; or it doesn't, and it left the list
abbrev pub IsSifted : Lit → ℕ → Watches → Watches → ℕ → Type 0
IsSifted lit at old new next =
    ((next ≡ at + 1) × (new.pairs ≡ old.pairs) × (new.lists ≡ old.lists))
    ⊎ ((next ≡ at) × (new.pairs ≡ old.pairs)
    × (¬ IsWatched (watch_of old (slice_index_or (places_of old.lists lit) at 0)) lit)
    × IsListSet lit (swap_remove (places_of old.lists lit) at 0) old.lists new.lists)
