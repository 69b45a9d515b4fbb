-- Reports: a line for each environment, and what each line claims.
use Rattle.std.specs.Prelude.{◌≡◌, ◌↔◌, ◌≤◌, ℕ, List, [], ◌∷◌, ◌++◌, map, flat_map, length, Bool, true, false, Some, codes}
use Rattle.std.specs.Fmt.{decimal}
use Rattle.std.specs.List.{AllByRecursion, Contains, list_any}
use Rattle.sc_names.specs.declared.uid.Uid.{Uid}
use Rattle.sc_ast.specs.declared.policy.Policy.{Policy}
use Rattle.sc_ast.specs.Literals.{literals}
use Rattle.sc_question.specs.declared.question.Question.{Question}
use Rattle.sc_clauses.specs.declared.step.Step.{Step}
use Rattle.sc_goal.specs.Properties.{has}
use Rattle.sc_goal.specs.Goals.{goal_term}
use Rattle.sc_footprint.specs.Atoms.{IsOverLimit, most_atoms}
use Rattle.sc_footprint.specs.Problems.{Posed, IsPosed, atoms}
use Rattle.sc_footprint.specs.Problems as problem
use Rattle.sc_solver.specs.Solutions.{IsSpent}
use Rattle.sc_inputs.specs.FaultTexts.{env_text}
use Rattle.sc_schema.specs.declared.declarations.Env.{Env}
use Rattle.sc_schema.specs.Declarations.{Declarations}
use Rattle.sc_terms.specs.Trees.{Tree}
use Rattle.sc_world.specs.declared.world.World.{World}
use Rattle.sc_world.specs.WellFormed.{IsWellFormed}
use Rattle.sc_world_json.specs.Text.{world_text}

-- a question of policy sets under a schema, within a budget; the second set is empty where the question takes one
pub record Asked : Type 0 where
  pub schema : Declarations
  pub question : Question
  pub first : List Policy
  pub second : List Policy
  pub budget : ℕ

-- all uids that the policies write
abbrev pub written_uids : Asked → List Uid
written_uids q = literals q.first ++ literals q.second

abbrev pub IsWorldOf : Asked → Env → World → Type 0
IsWorldOf q env w = IsWellFormed q.schema env (written_uids q) w

abbrev pub has_property : Asked → World → Bool
has_property q w = has q.question q.first q.second w

-- each well-formed world of the environment has the property
abbrev pub AlwaysHas : Asked → Env → Type 0
AlwaysHas q env = (w : World) → IsWorldOf q env w → has_property q w ≡ true

-- a well-formed world of the environment that hasn't
pub record Violates (q : Asked) (env : Env) (w : World) : Type 0 where
  pub well_formed : IsWorldOf q env w
  pub lacks : has_property q w ≡ false

-- the term that is true in the worlds that lack the property
pub record IsGoal (q : Asked) (env : Env) (goal : Tree) : Type 0 where
  pub is : goal_term q.schema env q.question q.first q.second ≡ Some goal

-- the environment's problem: whether some well-formed world, for the uids that the policies write, makes the goal true
pub record IsProblem (q : Asked) (env : Env) (p : Posed) : Type 0 where
  pub posed : IsPosed p
  pub schema_is : p.schema ≡ q.schema
  pub env_is : p.env ≡ env
  pub literals_are : (u : Uid) → Contains p.literals u ↔ Contains (written_uids q) u
  pub goal_is : IsGoal q env (problem.goal_term p)

-- a log of just so many units of the environment's problem
pub record IsUndecided (q : Asked) (env : Env) (units : ℕ) (log : List Step) : Type 0 where
  pub posed : Posed
  pub is_problem : IsProblem q env posed
  pub spent : IsSpent posed units log

-- the environment's problem lists no more atoms than may be
pub record HasRoom (q : Asked) (env : Env) : Type 0 where
  pub posed : Posed
  pub is_problem : IsProblem q env posed
  pub few : length (atoms posed) ≤ most_atoms

-- the environment's problem lists more atoms than may be
pub record IsTooLarge (q : Asked) (env : Env) : Type 0 where
  pub goal : Tree
  pub is_goal : IsGoal q env goal
  pub over_limit : IsOverLimit q.schema env goal

pub data Verdict : Type 0 where
  holds : Verdict
  counterexample : World → Verdict
  unknown : ℕ → List Step → Verdict
  over_limit : Verdict

-- what is claimed of an environment: where its problem is too large that alone, and else what was found
abbrev pub IsVerdict : Asked → Env → Verdict → Type 0
IsVerdict q env holds = AlwaysHas q env × HasRoom q env
IsVerdict q env (counterexample w) = Violates q env w × HasRoom q env
IsVerdict q env (unknown units log) = (units ≡ q.budget) × IsUndecided q env units log × HasRoom q env
IsVerdict q env over_limit = IsTooLarge q env

pub record Line : Type 0 where
  pub env : Env
  pub verdict : Verdict

abbrev pub IsLine : Asked → Line → Type 0
IsLine q l = IsVerdict q l.env l.verdict

-- one line for each of the environments, in their order, and each line is true
pub record IsReport (q : Asked) (envs : List Env) (lines : List Line) : Type 0 where
  pub in_order : map (λ (l : Line). l.env) lines ≡ envs
  pub lines_true : AllByRecursion (IsLine q) lines

abbrev pub verdict_text : Verdict → List ℕ
verdict_text holds = codes "holds"
verdict_text (counterexample w) = codes "counterexample " ++ world_text w
verdict_text (unknown units log) = codes "unknown after " ++ (decimal units ++ codes " units")
verdict_text over_limit = codes "over limit"

unfoldable pub line_text : Line → List ℕ
line_text l = env_text l.env ++ codes ": " ++ verdict_text l.verdict ++ codes "\n"

-- the texts of lines, each with its newline
abbrev pub line_texts : List Line → List (List ℕ)
line_texts lines = map line_text lines

-- the one line where there are no environments
abbrev pub no_environments : List ℕ
no_environments = codes "no environments\n"

abbrev pub report_texts : List Line → List (List ℕ)
report_texts [] = no_environments ∷ []
report_texts (l ∷ ls) = line_texts (l ∷ ls)

abbrev pub is_counterexample : Verdict → Bool
is_counterexample (counterexample w) = true
is_counterexample _ = false

-- neither decided
abbrev pub is_open : Verdict → Bool
is_open (unknown units log) = true
is_open over_limit = true
is_open _ = false

abbrev pub has_counterexample : List Line → Bool
has_counterexample lines = list_any (λ (l : Line). is_counterexample l.verdict) lines

abbrev pub has_open : List Line → Bool
has_open lines = list_any (λ (l : Line). is_open l.verdict) lines

abbrev pub status_by : Bool → Bool → ℕ
status_by true left = 1
status_by false true = 2
status_by false false = 0

-- 1 where some line is a counterexample; else 2 where some line is neither that nor tells that the property holds;
-- else 0
abbrev pub status_of : List Line → ℕ
status_of lines = status_by (has_counterexample lines) (has_open lines)

abbrev pub log_of : Verdict → List (List Step)
log_of (unknown units log) = log ∷ []
log_of _ = []

-- the logs of the lines that say `unknown`
abbrev pub logs_of : List Line → List (List Step)
logs_of lines = flat_map (λ (l : Line). log_of l.verdict) lines
