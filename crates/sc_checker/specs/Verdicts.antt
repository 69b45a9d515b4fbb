-- Which logs are accepted, and which are rejected where and why, by rules: which instances there are, and the clause
-- of each.
use Rattle.std.specs.Prelude.{◌≡◌, ◌≢◌, ◌&&◌, ◌+◌, ℕ, List, [], ◌∷◌, ◌++◌, Result, Ok, Err, length, if◌then◌else◌}
use Rattle.sc_clauses.specs.Clauses.{Clause}
use Rattle.sc_footprint.specs.Problems.{Posed, atoms}
use Rattle.sc_footprint.specs.Definitions.{defining}
use Rattle.sc_clauses.specs.declared.step.Instance as instance
use Rattle.sc_clauses.specs.declared.step.Learned as learned
use Rattle.sc_clauses.specs.declared.step.Step.{Step}
use Rattle.sc_clauses.specs.declared.step.Step.TheVariants.{Instance, Learned}
use Rattle.sc_checker.specs.declared.checking.Reason.{Reason}
use Rattle.sc_checker.specs.declared.checking.Reason.TheVariants.{NoInstance, NotRefuted, NotEmpty}
use Rattle.sc_checker.specs.declared.checking.Verdict.{Verdict}
use Rattle.sc_checker.specs.declared.checking.Verdict.TheVariants.{Refuted, Rejected}
use Rattle.sc_refutations.specs.Refutations.{is_clause, negated, refutes}

-- an instance adds its clause where the rules have it, and nothing where they don't
abbrev pub IsOfInstance : (instance.Instance → Type 0) → (instance.Instance → Clause) → instance.Instance
    → Result Clause Reason → Type 0
IsOfInstance has clause_of i (Ok c) = has i × (c ≡ clause_of i)
IsOfInstance has clause_of i (Err reason) = (¬ has i) × (reason ≡ NoInstance)

-- a learned clause: it has literals of listed atoms, none with its negation, and its hints end in a conflict where
-- its literals are false
abbrev pub of_learned : ℕ → List Clause → learned.Learned → Result Clause Reason
of_learned count clauses l = if is_clause count l.clause && refutes clauses (negated l.clause) l.hints
    then Ok l.clause else Err NotRefuted

-- the clause that a step adds to those before it, or why it adds none
abbrev pub IsAdded : (instance.Instance → Type 0) → (instance.Instance → Clause) → ℕ → List Clause → Step
    → Result Clause Reason → Type 0
IsAdded has clause_of count clauses (Instance i) r = IsOfInstance has clause_of i r
IsAdded has clause_of count clauses (Learned l) r = r ≡ of_learned count clauses l

-- each step adds a clause to those before it, and these are the clauses that the steps add
pub data Adds (has : instance.Instance → Type 0) (clause_of : instance.Instance → Clause) (count : ℕ) : List Clause
    → List Step → List Clause → Type 0 where
  no_step : (clauses : List Clause) → Adds has clause_of count clauses [] []
  first_step : (clauses : List Clause) (s : Step) (ss : List Step) (c : Clause) (cs : List Clause)
      → IsAdded has clause_of count clauses s (Ok c)
      → Adds has clause_of count (clauses ++ c ∷ []) ss cs → Adds has clause_of count clauses (s ∷ ss) (c ∷ cs)

-- each step adds a clause to the defining ones and those of the steps before it, and the last clause is empty
pub record IsAccepted (has : instance.Instance → Type 0) (clause_of : instance.Instance → Clause) (p : Posed)
    (steps : List Step) : Type 0 where
  pub before : List Clause
  pub steps_add : Adds has clause_of (length (atoms p)) (defining p) steps (before ++ [] ∷ [])

-- each step before this one adds a clause, and it adds none, for this reason
pub record FailsAt (has : instance.Instance → Type 0) (clause_of : instance.Instance → Clause) (p : Posed)
    (steps : List Step) (number : ℕ) (reason : Reason) : Type 0 where
  pub before : List Step
  pub step : Step
  pub later : List Step
  pub clauses : List Clause
  pub are_all : steps ≡ before ++ step ∷ later
  pub before_add : Adds has clause_of (length (atoms p)) (defining p) before clauses
  pub fails : IsAdded has clause_of (length (atoms p)) (defining p ++ clauses) step (Err reason)
  pub number_is : number ≡ length before + 1

-- The least step at fault, and why. Or each step adds a clause, and the last isn't empty: then the fault is that of
-- the last step, or of 0 where there is no step.
pub data IsRejected (has : instance.Instance → Type 0) (clause_of : instance.Instance → Clause) (p : Posed)
    (steps : List Step) (number : ℕ) (reason : Reason) : Type 0 where
  adds_none : FailsAt has clause_of p steps number reason → IsRejected has clause_of p steps number reason
  not_empty : (clauses : List Clause) → Adds has clause_of (length (atoms p)) (defining p) steps clauses
      → ((before : List Clause) → clauses ≢ before ++ [] ∷ [])
      → number ≡ length steps → reason ≡ NotEmpty → IsRejected has clause_of p steps number reason

-- the verdict on steps
abbrev pub IsVerdictOn : (instance.Instance → Type 0) → (instance.Instance → Clause) → Posed → List Step
    → Verdict → Type 0
IsVerdictOn has clause_of p steps Refuted = IsAccepted has clause_of p steps
IsVerdictOn has clause_of p steps (Rejected number reason) = IsRejected has clause_of p steps number reason
