-- Unit propagation, which clauses are new to it, and where decisions and propagation come to a conflict.
use Rattle.std.specs.Prelude.{◌≡◌, ◌≢◌, ◌⊎◌, List, [], ◌∷◌}
use Rattle.std.specs.List.{Contains}
use Rattle.sc_clauses.specs.declared.lit.Lit.{Lit}
use Rattle.sc_clauses.specs.Clauses.{Clause, negation}

-- What unit propagation over the clauses makes true where the literals of c other than l are false: their negations,
-- and in turn the one literal of a clause whose others are false.
pub data Follows (clauses : List Clause) (c : Clause) (l : Lit) : Lit → Type 0 where
  assumed : (m x : Lit) → Contains c m → m ≢ l → x ≡ negation m → Follows clauses c l x
  unit : (d : Clause) (x : Lit) → Contains clauses d → Contains d x
      → ((m : Lit) → Contains d m → m ≢ x → Follows clauses c l (negation m)) → Follows clauses c l x

-- a conflict: it makes all literals of some clause false
abbrev pub Conflicts : List Clause → Clause → Lit → Type 0
Conflicts clauses c l = (d : Clause) × Contains clauses d
    × ((m : Lit) → Contains d m → Follows clauses c l (negation m))

-- where the other literals of c are false, propagation gives neither its literal l nor a conflict
abbrev pub IsNewBy : List Clause → Clause → Lit → Type 0
IsNewBy clauses c l = (Contains c l) × (¬ Follows clauses c l l) × (¬ Conflicts clauses c l)

-- c is new to propagation by one of its literals
abbrev pub IsNew : List Clause → Clause → Type 0
IsNew clauses c = (l : Lit) × IsNewBy clauses c l

-- a literal of the clause is true, or two aren't false, where these are the literals that are true
abbrev pub IsSettledBy : List Lit → Clause → Type 0
IsSettledBy known c =
    ((y : Lit) × Contains c y × Contains known y)
    ⊎ ((y : Lit) × (z : Lit) × Contains c y × Contains c z × (y ≢ z) × ¬ Contains known (negation y)
    × ¬ Contains known (negation z))

abbrev pub AreFalseBy : List Lit → Clause → Type 0
AreFalseBy known c = (m : Lit) → Contains c m → Contains known (negation m)

-- What decisions and unit propagation make true, the latest literal first: each is a decision, or the one literal of
-- a clause whose others are false. A decision is on a literal that isn't false, and is made only where propagation is
-- at rest: each clause has a true literal, or two that aren't false.
pub data IsReached (clauses : List Clause) : List Lit → Type 0 where
  at_first : IsReached clauses []
  implied : (known : List Lit) (c : Clause) (l : Lit) → IsReached clauses known → Contains clauses c → Contains c l
      → ((m : Lit) → Contains c m → m ≢ l → Contains known (negation m)) → IsReached clauses (l ∷ known)
  decided : (known : List Lit) (l : Lit) → IsReached clauses known
      → ((c : Clause) → Contains clauses c → IsSettledBy known c) → ¬ Contains known (negation l)
      → IsReached clauses (l ∷ known)

-- decisions and propagation make all literals of this clause false
abbrev pub FallsBy : List Clause → Clause → Type 0
FallsBy clauses c = (known : List Lit) × IsReached clauses known × AreFalseBy known c

-- they make all literals of one of the clauses false
abbrev pub HasConflict : List Clause → Type 0
HasConflict clauses = (c : Clause) × Contains clauses c × FallsBy clauses c
