-- What propagation has visited, and what it has still to visit.
use Rattle.std.specs.Prelude.{◌≡◌, ◌≢◌, ◌⊎◌, ◌+◌, ◌<◌, ◌≤◌, ⊤, ℕ, List, Bool, true, false, length, Option, Some, None}
use Rattle.std.specs.List.{Contains, slice_index_or}
use Rattle.sc_clauses.specs.declared.lit.Lit.{Lit}
use Rattle.sc_clauses.specs.Clauses.{Clause, negation}
use Rattle.sc_propagation.specs.declared.cell.Cell.{Cell}
use Rattle.sc_propagation.specs.declared.propagation.Pending.{Pending}
use Rattle.sc_propagation.specs.declared.propagation.Pending.TheVariants.{Each, One, From}
use Rattle.sc_propagation.specs.declared.trail.Trail.{Trail}
use Rattle.sc_propagation.specs.declared.watches.Watch.{Watch}
use Rattle.sc_propagation.specs.declared.watches.Watches.{Watches}
use Rattle.sc_propagation.specs.Lists.{places_of}
use Rattle.sc_propagation.specs.Readings.{IsFalsified}
use Rattle.sc_propagation.specs.Steps.{At}
use Rattle.sc_propagation.specs.Trails.{true_before, HoldsTrail, free_count}
use Rattle.sc_propagation.specs.Watching.{IsAlive, AreAliveBy, AreAliveAtLevels, IsWatching}
use Rattle.sc_propagation.specs.Watches.{watch_of, IsWatched}

-- a watched literal became false at place p of the trail or later
abbrev pub IsTouched : List Lit → ℕ → Option Watch → Type 0
IsTouched trail p o = (k : ℕ) × (l : Lit) × (p ≤ k) × At trail k l × IsWatched o (negation l)

-- the clause is alive, or a watched literal of it became false at place p or later
abbrev pub IsSeenBy : List Cell → List Lit → ℕ → Option Watch → Clause → Type 0
IsSeenBy cells trail p o c = IsAlive (true_before cells (length trail)) o c ⊎ IsTouched trail p o

abbrev pub IsSeen : Trail → Watches → ℕ → ℕ → Clause → Type 0
IsSeen t w p i c = IsSeenBy t.cells.items t.lits.items p (watch_of w i) c

-- each clause was seen
abbrev pub AreSeenFrom : List Clause → Trail → Watches → ℕ → Type 0
AreSeenFrom clauses t w p = (i : ℕ) (c : Clause) → At clauses i c → IsSeen t w p i c

-- each clause is alive, but those of which a watched literal became false at place p or later
pub record AreSeen (clauses : List Clause) (t : Trail) (w : Watches) (p : ℕ) : Type 0 where
  pub bounded : p ≤ length t.lits.items
  pub each : AreSeenFrom clauses t w p

-- all clauses are alive but the one at place i
pub record AreAliveBut (clauses : List Clause) (t : Trail) (w : Watches) (i : ℕ) : Type 0 where
  pub within : i < length clauses
  pub others : (j : ℕ) (c : Clause) → j ≢ i → At clauses j c
      → IsAlive (true_before t.cells.items (length t.lits.items)) (watch_of w j) c

-- all clauses are alive but those that are pending
abbrev pub AreSeenBut : List Clause → Trail → Watches → Pending → Type 0
AreSeenBut clauses t w Each = ⊤
AreSeenBut clauses t w (One i) = AreAliveBut clauses t w i
AreSeenBut clauses t w (From p) = AreSeen clauses t w p

-- all clauses are alive
abbrev pub AreAlive : List Clause → Trail → Watches → Type 0
AreAlive clauses t w = AreAliveBy (true_before t.cells.items (length t.lits.items)) w.pairs.items clauses

-- clauses are listed for their watched literals, and alive where each level begins
pub record IsWellWatched (n : ℕ) (clauses : List Clause) (t : Trail) (w : Watches) : Type 0 where
  pub watching : IsWatching n clauses w
  pub alive : AreAliveAtLevels t.cells.items t.levels.items w.pairs.items clauses

-- no level begins where the literal was false
pub record IsLate (t : Trail) (l : Lit) : Type 0 where
  pub at_levels : (k : ℕ) → k < length t.levels.items
      → true_before t.cells.items (slice_index_or t.levels.items k 0) (negation l) ≡ false

-- Two literals that a clause may watch: they keep it alive, now and where each level begins, and one of them that is
-- false was watched already.
pub record MayWatch (t : Trail) (was : Option Watch) (c : Clause) (w : Watch) : Type 0 where
  pub first : Contains c w.first
  pub second : Contains c w.second
  pub alive : IsAlive (true_before t.cells.items (length t.lits.items)) (Some w) c
  pub at_levels : (k : ℕ) → k < length t.levels.items
      → IsAlive (true_before t.cells.items (slice_index_or t.levels.items k 0)) (Some w) c
  pub listed : (l : Lit) → IsWatched (Some w) l
      → (true_before t.cells.items (length t.lits.items) (negation l) ≡ false) ⊎ IsWatched was l

-- The trail is as it was or has grown: each new literal is of an atom that was free, and what was seen stays seen.
pub record GoesOn (n : ℕ) (clauses : List Clause) (old new : Trail) : Type 0 where
  pub trail : HoldsTrail n clauses new
  pub levels : new.levels ≡ old.levels
  pub counted : free_count new.cells.items + length new.lits.items ≡ free_count old.cells.items + length old.lits.items
  pub longer : length old.lits.items ≤ length new.lits.items
  pub before : (q : ℕ) → q ≤ length old.lits.items → true_before new.cells.items q ≡ true_before old.cells.items q
  pub seen : (p : ℕ) (o : Option Watch) (c : Clause) → p ≤ length old.lits.items
      → IsSeenBy old.cells.items old.lits.items p o c → IsSeenBy new.cells.items new.lits.items p o c

-- The trail grows, other literals may be watched, and what was seen stays seen.
pub record MovesOn (n : ℕ) (clauses : List Clause) (old : Trail) (was : Watches) (new : Trail)
    (w : Watches) : Type 0 where
  pub goes_on : GoesOn n clauses old new
  pub watched : IsWellWatched n clauses new w
  pub seen : (p i : ℕ) (c : Clause) → p ≤ length old.lits.items → At clauses i c → IsSeen old was p i c
      → IsSeen new w p i c

-- the clause stands in the list of a literal that it watches, from a place on
abbrev pub IsWaiting : Watches → Lit → ℕ → ℕ → Type 0
IsWaiting w lit at i = (j : ℕ) × (at ≤ j) × (j < length (places_of w.lists lit))
    × (slice_index_or (places_of w.lists lit) j 0 ≡ i) × IsWatched (watch_of w i) lit

-- the other clauses watch what they watched, and the lists of false literals are as they were
pub record KeepsOthers (t : Trail) (place : ℕ) (old new : Watches) : Type 0 where
  pub pairs : (i : ℕ) → i ≢ place → watch_of new i ≡ watch_of old i
  pub lists : (l : Lit) → true_before t.cells.items (length t.lits.items) (negation l) ≡ true
      → places_of new.lists l ≡ places_of old.lists l

-- the clause at a place is falsified, or alive
abbrev pub HasVisited : List Clause → Trail → Watches → ℕ → Bool → Type 0
HasVisited clauses t w i true = IsFalsified clauses t.cells.items (length t.lits.items) i
HasVisited clauses t w i false =
    (c : Clause) → At clauses i c → IsAlive (true_before t.cells.items (length t.lits.items)) (watch_of w i) c

-- a clause is falsified, or all were seen from place p on
abbrev pub HasVisitedEach : List Clause → Trail → Watches → ℕ → Option ℕ → Type 0
HasVisitedEach clauses t w p None = AreSeenFrom clauses t w p
HasVisitedEach clauses t w p (Some i) = IsFalsified clauses t.cells.items (length t.lits.items) i

-- the same, where place p is on the trail
abbrev pub HasFollowed : List Clause → Trail → Watches → ℕ → Option ℕ → Type 0
HasFollowed clauses t w p None = AreSeen clauses t w p
HasFollowed clauses t w p (Some i) = IsFalsified clauses t.cells.items (length t.lits.items) i

-- a clause is falsified, or all are alive
abbrev pub HasPropagated : List Clause → Trail → Watches → Option ℕ → Type 0
HasPropagated clauses t w None = AreAlive clauses t w
HasPropagated clauses t w (Some i) = IsFalsified clauses t.cells.items (length t.lits.items) i
