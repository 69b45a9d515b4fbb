-- What a checker holds of the steps so far.
use Rattle.std.specs.Prelude.{◌≡◌, ◌<◌, ◌+◌, ℕ, List, [], ◌∷◌, ◌++◌, Bool, true, false, Option, Some, None, Result, Ok, Err, IsTrue, length, if◌then◌else◌}
use Rattle.std.specs.List.{AllByRecursion, Contains}
use Rattle.sc_clauses.specs.Clauses.{Clause}
use Rattle.sc_clauses.specs.declared.step.Instance.{Instance}
use Rattle.sc_clauses.specs.declared.step.Step.{Step}
use Rattle.sc_world.specs.declared.world.World.{World}
use Rattle.sc_footprint.specs.Problems.{Posed, atoms}
use Rattle.sc_footprint.specs.Definitions.{defining}
use Rattle.sc_footprint.specs.Truths.{IsTrueIn, Satisfies}
use Rattle.sc_checker.specs.declared.checking.Reason.{Reason}
use Rattle.sc_checker.specs.declared.checking.Reason.TheVariants.{NotEmpty}
use Rattle.sc_checker.specs.declared.checking.Verdict.{Verdict}
use Rattle.sc_checker.specs.declared.checking.Verdict.TheVariants.{Refuted, Rejected}
use Rattle.sc_refutations.specs.Refutations.{is_nil, are_listed}
use Rattle.sc_checker.specs.Verdicts.{IsAdded}

-- how many atoms are listed, how many steps there were, the defining clauses and those that the steps added, whether
-- the last step's clause is empty, and the least step at fault with its reason
pub record Progress : Type 0 where
  pub listed : ℕ
  pub steps : ℕ
  pub clauses : List Clause
  pub is_empty : Bool
  pub fault : Option (ℕ × Reason)

-- before the first step
abbrev pub start : Posed → Progress
start p = record { listed = length (atoms p); steps = 0; clauses = defining p; is_empty = false; fault = None }

-- the step of this number is at fault
abbrev pub failed : ℕ → Reason → Progress → Progress
failed number reason g = record {
  listed = g.listed;
  steps = g.steps;
  clauses = g.clauses;
  is_empty = g.is_empty;
  fault = Some (number, reason);
}

-- one step more
abbrev pub counted : Progress → Progress
counted g = record {
  listed = g.listed;
  steps = g.steps + 1;
  clauses = g.clauses;
  is_empty = g.is_empty;
  fault = g.fault;
}

-- the last step adds a clause
abbrev pub grown : Clause → Progress → Progress
grown c g = record {
  listed = g.listed;
  steps = g.steps;
  clauses = g.clauses ++ c ∷ [];
  is_empty = is_nil c;
  fault = g.fault;
}

-- after a step that adds a clause, or none for a reason
abbrev pub taken : Result Clause Reason → Progress → Progress
taken (Ok c) g = grown c (counted g)
taken (Err reason) g = failed (g.steps + 1) reason (counted g)

-- after a step that does one of these
pub record IsTaken (P : Result Clause Reason → Type 0) (g h : Progress) : Type 0 where
  pub outcome : Result Clause Reason
  pub is_so : P outcome
  pub leaves : h ≡ taken outcome g

-- what a step leaves
pub data AfterStep (has : Instance → Type 0) (clause_of : Instance → Clause) (g : Progress) (s : Step)
    (h : Progress) : Type 0 where
  is_past_fault : (fault : ℕ × Reason) → g.fault ≡ Some fault → h ≡ g → AfterStep has clause_of g s h
  is_taken : g.fault ≡ None → IsTaken (IsAdded has clause_of g.listed g.clauses s) g h → AfterStep has clause_of g s h

-- what steps leave, one after another
unfoldable pub AfterSteps : (Instance → Type 0) → (Instance → Clause) → Progress → List Step → Progress → Type 0
AfterSteps has clause_of g [] h = h ≡ g
AfterSteps has clause_of g (s ∷ ss) h = (k : Progress) × AfterStep has clause_of g s k × AfterSteps has clause_of k ss h

-- a fault stays: nothing after it is looked at
abbrev pub unless_at_fault : {X : Type 0} → Option (ℕ × Reason) → X → X → X
unless_at_fault None here next = next
unless_at_fault (Some fault) here next = here

-- the verdict where the fault is this, or the steps end here, the last one with an empty clause or not
abbrev pub verdict_at : Option (ℕ × Reason) → ℕ → Bool → Verdict
verdict_at (Some fault) steps is_empty = Rejected fault.0 fault.1
verdict_at None steps is_empty = if is_empty then Refuted else Rejected steps NotEmpty

abbrev pub verdict_of : Progress → Verdict
verdict_of g = verdict_at g.fault g.steps g.is_empty

-- What is so of the steps on a problem: the clauses have literals of its listed atoms, more of them than there were
-- steps, and are true in each well-formed world in which its goal is; and the last step's is one of them.
pub record IsChecked (p : Posed) (g : Progress) : Type 0 where
  pub count : g.listed ≡ length (atoms p)
  pub fit : IsTrue (are_listed g.listed g.clauses)
  pub room : g.fault ≡ None → g.steps < length g.clauses
  pub hold : (w : World) → Satisfies p w → AllByRecursion (IsTrueIn p w) g.clauses
  pub last : g.is_empty ≡ true → Contains g.clauses []
