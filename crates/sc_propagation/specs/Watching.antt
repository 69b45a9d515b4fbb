-- Which clauses are listed for their watched literals, and which these keep alive.
use Rattle.std.specs.Prelude.{◌≡◌, ◌≢◌, ◌⊎◌, ◌<◌, ℕ, List, Bool, true, false, length, Option, Some, None}
use Rattle.std.specs.List.{Contains, slice_index_or}
use Rattle.sc_clauses.specs.declared.lit.Lit.{Lit}
use Rattle.sc_clauses.specs.Clauses.{Clause, negation}
use Rattle.sc_propagation.specs.declared.cell.Cell.{Cell}
use Rattle.sc_propagation.specs.Steps.{At}
use Rattle.sc_propagation.specs.Trails.{true_before}
use Rattle.sc_propagation.specs.declared.lists.Lists.{Lists}
use Rattle.sc_propagation.specs.declared.watches.Watch.{Watch}
use Rattle.sc_propagation.specs.declared.watches.Watches.{Watches}
use Rattle.sc_propagation.specs.Lists.{lists_of, places_of}
use Rattle.sc_propagation.specs.Watches.{watch_in, IsWatched}

-- two literals are watched, and neither is false
abbrev pub AreOpen : (Lit → Bool) → Option Watch → Type 0
AreOpen T None = ⊥
AreOpen T (Some w) = (w.first ≢ w.second) × (T (negation w.first) ≡ false) × (T (negation w.second) ≡ false)

-- a literal of the clause is true, or two that it watches aren't false
abbrev pub IsAlive : (Lit → Bool) → Option Watch → Clause → Type 0
IsAlive T o c = ((y : Lit) × Contains c y × (T y ≡ true)) ⊎ AreOpen T o

abbrev pub AreAliveBy : (Lit → Bool) → List (Option Watch) → List Clause → Type 0
AreAliveBy T pairs clauses = (i : ℕ) (c : Clause) → At clauses i c → IsAlive T (watch_in pairs i) c

-- each clause is alive where each level begins
abbrev pub AreAliveAtLevels : List Cell → List ℕ → List (Option Watch) → List Clause → Type 0
AreAliveAtLevels cells levels pairs clauses =
    (k : ℕ) → k < length levels → AreAliveBy (true_before cells (slice_index_or levels k 0)) pairs clauses

-- Each clause stands in the lists of its watched literals, which are its own.
pub record AreListedBy (n : ℕ) (clauses : List Clause) (pairs : List (Option Watch)) (o : Lists) : Type 0 where
  pub sized : (sign : Bool) → length (lists_of o sign) ≡ n
  pub paired : length pairs ≡ length clauses
  pub listed : (i : ℕ) (l : Lit) → IsWatched (watch_in pairs i) l → Contains (places_of o l) i
  pub within : (l : Lit) (i : ℕ) → Contains (places_of o l) i → i < length clauses
  pub members : (i : ℕ) (c : Clause) (l : Lit) → At clauses i c → IsWatched (watch_in pairs i) l → Contains c l

abbrev pub IsWatching : ℕ → List Clause → Watches → Type 0
IsWatching n clauses w = AreListedBy n clauses w.pairs.items w.lists
