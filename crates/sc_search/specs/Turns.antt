-- What one turn of the search does.
use Rattle.std.specs.Prelude.{◌≡◌, ◌≢◌, ◌+◌, ◌-◌, ◌≤◌, ◌++◌, ℕ, List, [], ◌∷◌, length, Option, Some, None}
use Rattle.sc_clauses.specs.declared.step.Instance as instance
use Rattle.sc_clauses.specs.declared.step.Learned as learned
use Rattle.sc_clauses.specs.declared.step.Step.{Step}
use Rattle.sc_clauses.specs.declared.step.Step.TheVariants.{Learned}
use Rattle.sc_clauses.specs.Clauses.{Clause}
use Rattle.sc_search.specs.declared.solver.Solver.{Solver}
use Rattle.sc_search.specs.declared.solver.Turn.{Turn}
use Rattle.sc_search.specs.declared.solver.Turn.TheVariants as turn
use Rattle.sc_propagation.specs.Propagation.{IsNew, HasConflict}
use Rattle.sc_propagation.specs.Steps.{IsShown, IsLawful, after, added}
use Rattle.sc_search.specs.Findings.{IsUnit, AreUnits, IsConsistent, IsDue}
use Rattle.sc_propagation.specs.Trails.{true_before, AreQuiet, HoldsTrail, AreInCells, AreAllSet}
use Rattle.sc_propagation.specs.Readings.{IsFalsified}
use Rattle.sc_propagation.specs.Visits.{AreAlive, AreSeenBut, IsWellWatched}

-- the state between turns: clauses, watched literals and trail fit together, over n cells and as many marks
pub record IsReady (n : ℕ) (s : Solver) : Type 0 where
  pub in_cells : AreInCells n s.clauses
  pub watched : IsWellWatched n s.clauses s.trail s.watches
  pub trail : HoldsTrail n s.clauses s.trail
  pub seen : AreSeenBut s.clauses s.trail s.watches s.pending
  pub marks : length s.analysis.met ≡ n

-- the clauses and the steps are unchanged
pub record IsKept (clauses : List Clause) (steps : List Step) (s : Solver) : Type 0 where
  pub clauses_kept : s.clauses ≡ clauses
  pub steps_kept : s.steps.items ≡ steps

-- each atom has a value, and no clause is falsified
pub record IsTotal (s : Solver) : Type 0 where
  pub quiet : AreQuiet (true_before s.trail.cells.items (length s.trail.lits.items)) s.clauses
  pub alive : AreAlive s.clauses s.trail s.watches
  pub full : AreAllSet s.trail.cells.items

-- propagation is at rest: no clause implies a literal or is falsified
pub record IsQuietNow (s : Solver) : Type 0 where
  pub quiet : AreQuiet (true_before s.trail.cells.items (length s.trail.lits.items)) s.clauses
  pub alive : AreAlive s.clauses s.trail s.watches

-- a falsified clause, or propagation at rest
abbrev pub IsCalm : Solver → Option ℕ → Type 0
IsCalm s None = IsQuietNow s
IsCalm s (Some i) = IsFalsified s.clauses s.trail.cells.items (length s.trail.lits.items) i

-- a falsified clause, or a value for each atom
abbrev pub IsAtRest : Solver → Option ℕ → Type 0
IsAtRest s None = IsTotal s
IsAtRest s (Some i) = IsFalsified s.clauses s.trail.cells.items (length s.trail.lits.items) i

-- one more learned clause, with its step
pub record HasLearned (n : ℕ) (clauses : List Clause) (steps : List Step) (s : Solver) : Type 0 where
  pub ready : IsReady n s
  pub step : learned.Learned
  pub clauses_more : s.clauses ≡ clauses ++ step.clause ∷ []
  pub steps_more : s.steps.items ≡ steps ++ Learned step ∷ []
  pub is_shown : (atoms : ℕ) → n ≡ atoms + 1 → IsShown atoms clauses step
  pub is_new : IsNew clauses step.clause

-- the empty clause, with its step
pub record HasRefuted (clauses : List Clause) (steps : List Step) (s : Solver) : Type 0 where
  pub step : learned.Learned
  pub is_empty : step.clause ≡ []
  pub steps_more : s.steps.items ≡ steps ++ Learned step ∷ []
  pub is_shown : (atoms : ℕ) → IsShown atoms clauses step

abbrev pub HasSettled : ℕ → List Clause → List Step → ℕ → Solver → Turn → Type 0
HasSettled n clauses steps budget s turn.Added = HasLearned n clauses steps s × (length steps ≢ budget)
HasSettled n clauses steps budget s turn.Refuted = HasRefuted clauses steps s × (length steps ≢ budget)
HasSettled n clauses steps budget s (turn.Consistent m) = ⊥
HasSettled n clauses steps budget s turn.Spent = (s.steps.items ≡ steps) × (length steps ≡ budget) × HasConflict clauses

-- one more unit
pub record HasAdded (atoms : ℕ) (has_instance : instance.Instance → Type 0) (clause_of : instance.Instance → Clause)
    (clauses : List Clause) (steps : List Step) (s : Solver) : Type 0 where
  pub step : Step
  pub is_unit : IsUnit atoms has_instance clause_of clauses step
  pub clauses_more : s.clauses ≡ clauses ++ added clause_of step ∷ []
  pub steps_more : s.steps.items ≡ steps ++ step ∷ []
  pub ready : IsReady (atoms + 1) s

-- one more lawful step, with the empty clause
pub record HasEnded (atoms : ℕ) (has_instance : instance.Instance → Type 0) (clause_of : instance.Instance → Clause)
    (clauses : List Clause) (steps : List Step) (s : Solver) : Type 0 where
  pub step : Step
  pub is_lawful : IsLawful atoms has_instance clause_of clauses step
  pub is_empty : added clause_of step ≡ []
  pub steps_more : s.steps.items ≡ steps ++ step ∷ []

abbrev pub IsTurn : ℕ → (instance.Instance → Type 0) → (instance.Instance → Clause) → List Clause → List Step → ℕ
    → Solver → Turn → Type 0
IsTurn atoms has_instance clause_of clauses steps budget s turn.Added =
    HasAdded atoms has_instance clause_of clauses steps s × (length steps ≢ budget)
IsTurn atoms has_instance clause_of clauses steps budget s turn.Refuted =
    HasEnded atoms has_instance clause_of clauses steps s × (length steps ≢ budget)
IsTurn atoms has_instance clause_of clauses steps budget s (turn.Consistent m) =
    IsConsistent atoms has_instance clause_of clauses m
IsTurn atoms has_instance clause_of clauses steps budget s turn.Spent =
    (s.steps.items ≡ steps) × (length steps ≡ budget) × IsDue has_instance clause_of clauses

-- the part of a turn before any decision: nothing is logged, or the turn is over
abbrev pub HasBegun : ℕ → (instance.Instance → Type 0) → (instance.Instance → Clause) → List Clause → List Step → ℕ
    → Solver → Option Turn → Type 0
HasBegun n has_instance clause_of clauses steps budget s None = IsReady n s × IsKept clauses steps s
HasBegun n has_instance clause_of clauses steps budget s (Some t) =
    IsTurn (n - 1) has_instance clause_of clauses steps budget s t

-- the state of the search: behind the clauses given stand units, at most as many as the budget
pub record IsSearching (atoms : ℕ) (has_instance : instance.Instance → Type 0)
    (clause_of : instance.Instance → Clause) (clauses : List Clause) (budget : ℕ) (s : Solver) : Type 0 where
  pub ready : IsReady (atoms + 1) s
  pub clauses_are : s.clauses ≡ after clause_of clauses s.steps.items
  pub are_units : AreUnits atoms has_instance clause_of clauses s.steps.items
  pub within : length s.steps.items ≤ budget
