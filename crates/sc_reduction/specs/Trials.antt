-- Trials: whether some of the policies of a set decide alike without one of them.
use Rattle.std.specs.Prelude.{◌≡◌, ◌↔◌, ◌⊎◌, ℕ, List, Bool, true, false, IsSomeAnd, Some, slice_get, take}
use Rattle.std.specs.List.{AllByRecursion, Contains}
use Rattle.sc_names.specs.declared.uid.Uid.{Uid}
use Rattle.sc_ast.specs.declared.policy.Policy.{Policy}
use Rattle.sc_ast.specs.Literals.{literals}
use Rattle.sc_schema.specs.declared.declarations.Env.{Env}
use Rattle.sc_schema.specs.Declarations.{Declarations, environments}
use Rattle.sc_world.specs.declared.world.World.{World}
use Rattle.sc_world.specs.WellFormed.{IsWellFormed}
use Rattle.sc_clauses.specs.declared.step.Step.{Step}
use Rattle.sc_terms.specs.Trees.{Tree}
use Rattle.sc_footprint.specs.Atoms.{IsOverLimit}
use Rattle.sc_footprint.specs.Problems.{Posed, IsPosed, goal_term as goal_of}
use Rattle.sc_solver.specs.Solutions.{IsSpent}
use Rattle.sc_question.specs.declared.question.Question.TheVariants.{Equivalent}
use Rattle.sc_goal.specs.Goals.{goal_term}
use Rattle.sc_goal.specs.Properties.{has}
use Rattle.sc_goal.specs.Selections.{selected}
use Rattle.sc_reduction.specs.declared.comparing.Finding.{Finding}
use Rattle.sc_reduction.specs.declared.comparing.Finding.TheVariants.{Alike, Differs, Spent, OverLimit}
use Rattle.sc_reduction.specs.declared.fate.Fate.{Fate}
use Rattle.sc_reduction.specs.declared.fate.Fate.TheVariants.{Dropped, Kept, Unproved, TooLarge}

-- the policies of a file, under a schema; those that `left` marks are compared with those that `right` marks, within
-- a budget for each environment
pub record Trial : Type 0 where
  pub schema : Declarations
  pub policies : List Policy
  pub left : List Bool
  pub right : List Bool
  pub budget : ℕ

abbrev pub first : Trial → List Policy
first t = selected t.left t.policies

abbrev pub second : Trial → List Policy
second t = selected t.right t.policies

-- a world stores all uids that the whole file writes
abbrev pub IsWorldOf : Trial → Env → World → Type 0
IsWorldOf t env w = IsWellFormed t.schema env (literals t.policies) w

-- both allow, or neither does
abbrev pub decide_alike : Trial → World → Bool
decide_alike t w = has Equivalent (first t) (second t) w

-- in each well-formed world of the environment they decide alike
abbrev pub AlwaysAlike : Trial → Env → Type 0
AlwaysAlike t env = (w : World) → IsWorldOf t env w → decide_alike t w ≡ true

-- a well-formed world of the environment in which they don't
pub record TellsApart (t : Trial) (env : Env) (w : World) : Type 0 where
  pub well_formed : IsWorldOf t env w
  pub differs : decide_alike t w ≡ false

-- the term that is true in the worlds that tell them apart
pub record IsGoal (t : Trial) (env : Env) (goal : Tree) : Type 0 where
  pub is : goal_term t.schema env Equivalent (first t) (second t) ≡ Some goal

-- the problem of the environment: whether some well-formed world, for the uids of the whole file, tells them apart
pub record IsProblem (t : Trial) (env : Env) (p : Posed) : Type 0 where
  pub posed : IsPosed p
  pub schema_is : p.schema ≡ t.schema
  pub env_is : p.env ≡ env
  pub literals_are : (u : Uid) → Contains p.literals u ↔ Contains (literals t.policies) u
  pub goal_is : IsGoal t env (goal_of p)

-- a log of just as many units of the environment's problem as the budget
pub record IsUndecided (t : Trial) (env : Env) (log : List Step) : Type 0 where
  pub posed : Posed
  pub is_problem : IsProblem t env posed
  pub spent : IsSpent posed t.budget log

-- the environment's problem lists more atoms than may be
pub record IsTooLarge (t : Trial) (env : Env) : Type 0 where
  pub goal : Tree
  pub is_goal : IsGoal t env goal
  pub over_limit : IsOverLimit t.schema env goal

-- what is found of an environment is so
abbrev pub IsFinding : Trial → Env → Finding → Type 0
IsFinding t env Alike = AlwaysAlike t env
IsFinding t env (Differs w) = TellsApart t env w
IsFinding t env (Spent log) = IsUndecided t env log
IsFinding t env OverLimit = IsTooLarge t env

-- ---- all environments

-- the environment at a place is so
abbrev pub At : Trial → ℕ → (Env → Type 0) → Type 0
At t n P = IsSomeAnd (slice_get (environments t.schema) n) P

-- no world of the environment tells the two apart, or none is found: the budget is spent, or the problem is too large
abbrev pub IsQuiet : Trial → Env → Type 0
IsQuiet t env = AlwaysAlike t env ⊎ ((log : List Step) × IsUndecided t env log) ⊎ IsTooLarge t env

-- the environment at a place is the first that is open, and none has a world that is found to tell the two apart
pub record IsFirstOpen (t : Trial) (n : ℕ) : Type 0 where
  pub before : AllByRecursion (AlwaysAlike t) (take n (environments t.schema))
  pub quiet : AllByRecursion (IsQuiet t) (environments t.schema)

-- what is found of all environments is so: the policy matters in none, in one by a world, or is open in one
abbrev pub Finds : Trial → Fate → Type 0
Finds t Dropped = AllByRecursion (AlwaysAlike t) (environments t.schema)
Finds t (Kept n w) = At t n (λ env. TellsApart t env w)
Finds t (Unproved n log) = At t n (λ env. IsUndecided t env log) × IsFirstOpen t n
Finds t (TooLarge n) = At t n (IsTooLarge t) × IsFirstOpen t n
