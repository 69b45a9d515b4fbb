-- The outcomes of a search.
use Rattle.std.specs.Prelude.{◌≡◌, ◌≢◌, ◌≤◌, ◌⊎◌, ◌++◌, ⊤, ℕ, List, [], ◌∷◌, false, IsSome, length}
use Rattle.std.specs.List.{Contains}
use Rattle.sc_clauses.specs.declared.step.Instance.{Instance}
use Rattle.sc_clauses.specs.declared.step.Step.{Step}
use Rattle.sc_clauses.specs.Assignments.{Assignment, value_of, falsifies}
use Rattle.sc_clauses.specs.Clauses.{Clause, contained}
use Rattle.sc_search.specs.declared.searching.Found.{Found}
use Rattle.sc_search.specs.declared.searching.Found.TheVariants.{Refuted, Consistent, Spent}
use Rattle.sc_propagation.specs.Propagation.{IsNew, FallsBy, HasConflict}
use Rattle.sc_propagation.specs.Steps.{added, after, IsLawful}

-- A unit: a lawful step whose clause isn't empty, contains no clause before it, and is new to unit propagation.
pub record IsUnit (atoms : ℕ) (has_instance : Instance → Type 0) (clause_of : Instance → Clause)
    (clauses : List Clause) (s : Step) : Type 0 where
  pub is_lawful : IsLawful atoms has_instance clause_of clauses s
  pub some : added clause_of s ≢ []
  pub uncovered : (c : Clause) → Contains clauses c → contained c (added clause_of s) ≡ false
  pub is_new : IsNew clauses (added clause_of s)

-- each step is a unit over the clauses given and those of the steps before it
pub data AreUnits (atoms : ℕ) (has_instance : Instance → Type 0) (clause_of : Instance → Clause) : List Clause
    → List Step → Type 0 where
  no_step : (clauses : List Clause) → AreUnits atoms has_instance clause_of clauses []
  first_step : (clauses : List Clause) (s : Step) (steps : List Step) → IsUnit atoms has_instance clause_of clauses s
      → AreUnits atoms has_instance clause_of (clauses ++ added clause_of s ∷ []) steps
      → AreUnits atoms has_instance clause_of clauses (s ∷ steps)

-- units, and then a lawful step with the empty clause; at most as many steps as the budget
pub record IsRefutation (atoms : ℕ) (has_instance : Instance → Type 0) (clause_of : Instance → Clause)
    (clauses : List Clause) (budget : ℕ) (steps : List Step) : Type 0 where
  pub units : List Step
  pub last : Step
  pub are_units : AreUnits atoms has_instance clause_of clauses units
  pub is_lawful : IsLawful atoms has_instance clause_of (after clause_of clauses units) last
  pub is_empty : added clause_of last ≡ []
  pub are_all : steps ≡ units ++ last ∷ []
  pub within : length steps ≤ budget

-- One more step is due: decisions and unit propagation falsify a clause, or that of an instance of the source.
abbrev pub IsDue : (Instance → Type 0) → (Instance → Clause) → List Clause → Type 0
IsDue has_instance clause_of clauses =
    HasConflict clauses ⊎ ((i : Instance) × has_instance i × FallsBy clauses (clause_of i))

-- as many units as the budget, after which one more step is due
pub record IsSpent (atoms : ℕ) (has_instance : Instance → Type 0) (clause_of : Instance → Clause)
    (clauses : List Clause) (budget : ℕ) (steps : List Step) : Type 0 where
  pub count : length steps ≡ budget
  pub are_units : AreUnits atoms has_instance clause_of clauses steps
  pub due : IsDue has_instance clause_of (after clause_of clauses steps)

-- each atom has a value, and neither a clause given nor that of an instance of the source is falsified
pub record IsConsistent (atoms : ℕ) (has_instance : Instance → Type 0) (clause_of : Instance → Clause)
    (clauses : List Clause) (m : Assignment) : Type 0 where
  pub count : length m ≡ atoms
  pub total : (n : ℕ) → 1 ≤ n → n ≤ atoms → IsSome (value_of m n)
  pub keeps_clauses : (c : Clause) → Contains clauses c → falsifies m c ≡ false
  pub keeps_instances : (i : Instance) → has_instance i → falsifies m (clause_of i) ≡ false

abbrev pub IfRefuted : (List Step → Type 0) → Found → Type 0
IfRefuted P (Refuted steps) = P steps
IfRefuted P (Consistent m) = ⊤
IfRefuted P (Spent steps) = ⊤

abbrev pub IfConsistent : (Assignment → Type 0) → Found → Type 0
IfConsistent P (Refuted steps) = ⊤
IfConsistent P (Consistent m) = P m
IfConsistent P (Spent steps) = ⊤

abbrev pub IfSpent : (List Step → Type 0) → Found → Type 0
IfSpent P (Refuted steps) = ⊤
IfSpent P (Consistent m) = ⊤
IfSpent P (Spent steps) = P steps
