-- What a search finds of a problem under the rules of a theory.
use Rattle.std.specs.Prelude.{◌≡◌, ◌≤◌, ◌++◌, ℕ, List, IsSome, false, length}
use Rattle.std.specs.List.{Contains}
use Rattle.sc_world.specs.declared.world.World.{World}
use Rattle.sc_clauses.specs.Assignments.{Assignment, value_of, falsifies}
use Rattle.sc_clauses.specs.Clauses.{Clause}
use Rattle.sc_clauses.specs.declared.step.Instance.{Instance}
use Rattle.sc_clauses.specs.declared.step.Step.{Step}
use Rattle.sc_search.specs.Findings.{IsDue}
use Rattle.sc_footprint.specs.Definitions.{defining}
use Rattle.sc_footprint.specs.Problems.{Posed, atoms}
use Rattle.sc_footprint.specs.Theories.{IsClauseOf}
use Rattle.sc_footprint.specs.Truths.{IsTrueIn, Satisfies, IsUnsatisfiable}
use Rattle.sc_checker.specs.Verdicts.{Adds, IsAccepted}
use Rattle.sc_theory_search.specs.Units.{AreUnits}
use Rattle.sc_theory_search.specs.declared.finding.Finding.{Finding}
use Rattle.sc_theory_search.specs.declared.finding.Finding.TheVariants.{Refuted, Consistent, Spent}

-- each listed atom has a value, and neither a defining clause nor the clause of an instance is falsified
pub record IsConsistent (has : Instance → Type 0) (clause_of : Instance → Clause) (p : Posed)
    (m : Assignment) : Type 0 where
  pub total : (n : ℕ) → 1 ≤ n → n ≤ length (atoms p) → IsSome (value_of m n)
  pub defined : (c : Clause) → Contains (defining p) c → falsifies m c ≡ false
  pub ruled : (i : Instance) → has i → falsifies m (clause_of i) ≡ false

-- A log of just so many units: each step is lawful, its clause has literals of listed atoms, none with its negation,
-- is a unit after the defining ones and those of the steps before it, and true in each well-formed world in which the
-- goal is. One more step is due.
pub record IsSpent (has : Instance → Type 0) (clause_of : Instance → Clause) (p : Posed) (budget : ℕ)
    (steps : List Step) : Type 0 where
  pub clauses : List Clause
  pub steps_add : Adds has clause_of (length (atoms p)) (defining p) steps clauses
  pub count : length steps ≡ budget
  pub listed : (c : Clause) → Contains clauses c → IsClauseOf p c
  pub are_units : AreUnits (defining p) clauses
  pub hold : (w : World) (c : Clause) → Satisfies p w → Contains clauses c → IsTrueIn p w c
  pub due : IsDue has clause_of (defining p ++ clauses)

-- A log of at most so many steps that is accepted, so that the goal is true in no well-formed world; an
-- assignment that falsifies nothing; or a log of as many units as the budget, where one more step is due.
abbrev pub IsFinding : (Instance → Type 0) → (Instance → Clause) → Posed → ℕ → Finding → Type 0
IsFinding has clause_of p budget (Refuted log) = IsAccepted has clause_of p log × (length log ≤ budget)
    × IsUnsatisfiable p
IsFinding has clause_of p budget (Consistent m) = IsConsistent has clause_of p m
IsFinding has clause_of p budget (Spent log) = IsSpent has clause_of p budget log
