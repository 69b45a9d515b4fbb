-- The truth of atoms, clauses and the goal in a world.
use Rattle.std.specs.Prelude.{◌≡◌, ℕ, Bool, true, false, Option, Some, None}
use Rattle.sc_world.specs.declared.world.World.{World}
use Rattle.sc_world.specs.WellFormed.{IsWellFormed}
use Rattle.sc_clauses.specs.Clauses.{Clause, clause_holds}
use Rattle.sc_terms.specs.Trees.{Tree}
use Rattle.sc_closure.specs.Truths.{is_true}
use Rattle.sc_footprint.specs.Problems.{Posed, goal_term, atoms, numbered}

abbrev pub is_true_at : Option Tree → World → Bool
is_true_at None w = false
is_true_at (Some t) w = is_true t w

-- the truth of the listed atoms
abbrev pub truths : Posed → World → ℕ → Bool
truths p w n = is_true_at (numbered (atoms p) n) w

-- some literal of the clause is true
abbrev pub IsTrueIn : Posed → World → Clause → Type 0
IsTrueIn p w c = clause_holds (truths p w) c ≡ true

-- a world of the problem's environment, for its literals
abbrev pub IsWorldOf : Posed → World → Type 0
IsWorldOf p w = IsWellFormed p.schema p.env p.literals w

-- a well-formed world in which the goal is true
pub record Satisfies (p : Posed) (w : World) : Type 0 where
  pub well_formed : IsWorldOf p w
  pub goal_true : is_true (goal_term p) w ≡ true

-- the goal is true in no well-formed world
abbrev pub IsUnsatisfiable : Posed → Type 0
IsUnsatisfiable p = (w : World) → ¬ Satisfies p w
