-- What an answer of the solver means.
use Rattle.std.specs.Prelude.{◌≡◌, ◌≤◌, ◌++◌, ℕ, List, length}
use Rattle.std.specs.List.{Contains}
use Rattle.sc_world.specs.declared.world.World.{World}
use Rattle.sc_clauses.specs.Clauses.{Clause}
use Rattle.sc_clauses.specs.declared.step.Step.{Step}
use Rattle.sc_search.specs.Findings.{IsDue}
use Rattle.sc_footprint.specs.Definitions.{defining}
use Rattle.sc_footprint.specs.Problems.{Posed, atoms}
use Rattle.sc_footprint.specs.Theories.{IsClauseOf}
use Rattle.sc_footprint.specs.Truths.{IsTrueIn, Satisfies, IsUnsatisfiable}
use Rattle.sc_checker.specs.Verdicts.{Adds, IsAccepted}
use Rattle.sc_theory_search.specs.Units.{AreUnits}
use Rattle.sc_solver.specs.Theories.{HasRule, HasOtherRule, rule_clause}
use Rattle.sc_solver.specs.declared.solving.Solved.{Solved}
use Rattle.sc_solver.specs.declared.solving.Solved.TheVariants.{Refuted, Violated, Spent}

-- A log of just so many units: each step is lawful, its clause is a unit after the defining ones and those of the
-- steps before it, and true in each well-formed world in which the goal is. One more step is due: decisions and unit
-- propagation over all these clauses make all literals of one of them false, or of an instance's.
pub record IsSpent (p : Posed) (budget : ℕ) (steps : List Step) : Type 0 where
  pub clauses : List Clause
  pub steps_add : Adds (HasRule p) (rule_clause p) (length (atoms p)) (defining p) steps clauses
  pub count : length steps ≡ budget
  pub listed : (c : Clause) → Contains clauses c → IsClauseOf p c
  pub are_units : AreUnits (defining p) clauses
  pub hold : (w : World) (c : Clause) → Satisfies p w → Contains clauses c → IsTrueIn p w c
  pub due : IsDue (HasOtherRule p) (rule_clause p) (defining p ++ clauses)

-- An accepted log of at most so many steps, so that the goal is true in no well-formed world; a well-formed world in
-- which it is; or a log of as many units as the budget, where one more is due.
abbrev pub IsSolution : Posed → ℕ → Solved → Type 0
IsSolution p budget (Refuted log) = IsAccepted (HasRule p) (rule_clause p) p log × (length log ≤ budget)
    × IsUnsatisfiable p
IsSolution p budget (Violated w) = Satisfies p w
IsSolution p budget (Spent log) = IsSpent p budget log
