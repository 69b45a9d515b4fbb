-- What analysing an environment asks, and what its answer means.
use Rattle.std.specs.List.{Contains}
use Rattle.std.specs.Prelude.{◌≡◌, ◌≤◌, ℕ, List, [], IsSome, None, Option, Some, is_some, length, unwrap_or, ⊤}
use Rattle.sc_checker.specs.Verdicts.{IsAccepted}
use Rattle.sc_clauses.specs.declared.step.Step.{Step}
use Rattle.sc_footprint.specs.Problems.{Posed}
use Rattle.sc_goal.specs.Goals.{goal_term}
use Rattle.sc_ast.specs.declared.policy.Policy.{Policy}
use Rattle.sc_goal.specs.Queries.{Asked as Query, second}
use Rattle.sc_question.specs.declared.question.Question.{Question}
use Rattle.sc_question.specs.Questions.{takes_two}
use Rattle.sc_inputs.specs.Refusals.{AreServed}
use Rattle.sc_inputs.specs.declared.inputs.Analysis.{Analysis}
use Rattle.sc_inputs.specs.declared.inputs.Asking.{Asking}
use Rattle.sc_schema.specs.declared.declarations.Env.{Env}
use Rattle.sc_schema.specs.Declarations.{Declarations, environments}
use Rattle.sc_solver.specs.Theories.{HasRule, rule_clause}
use Rattle.sc_terms.specs.Trees.{Tree}
use Rattle.sc_typing.specs.Names.{name_fault}
use Rattle.sc_reports.specs.Reports.{Asked, IsProblem, IsVerdict}
use Rattle.sc_reports.specs.View.{verdict_view}
use Rattle.sc_reports.specs.declared.analysing.EnvAnswer.{EnvAnswer}
use Rattle.sc_reports.specs.declared.analysing.EnvAnswer.TheVariants.{Holds, Violated, Spent, OverLimit}

-- a query under a schema, within a budget
abbrev pub asked_of : Declarations → Query → ℕ → Asked
asked_of s q budget = record { schema = s; question = q.question; first = q.first; second = second q; budget = budget }

-- this term is the goal of a query in an environment
abbrev pub IsGoalOf : Declarations → Env → Query → Tree → Type 0
IsGoalOf s env q t = goal_term s env q.question q.first (second q) ≡ Some t

-- What may be asked of an environment: it is one of the schema's, the sets write declared names alone, and are typed
-- in it, so that there is a goal.
pub record MayBePosed (s : Declarations) (env : Env) (q : Query) : Type 0 where
  pub environment : Contains (environments s) env
  pub first_declared : name_fault s q.first ≡ None
  pub second_declared : name_fault s (second q) ≡ None
  pub typed : IsSome (goal_term s env q.question q.first (second q))

-- what is answered is so
abbrev pub IsAnswer : Asked → Env → EnvAnswer → Type 0
IsAnswer q env a = IsVerdict q env (verdict_view q.budget a)

-- a log of at most as many steps as the budget refutes the environment's problem
pub record IsRefuted (q : Asked) (env : Env) (log : List Step) : Type 0 where
  pub posed : Posed
  pub is_problem : IsProblem q env posed
  pub accepted : IsAccepted (HasRule posed) (rule_clause posed) posed log
  pub within : length log ≤ q.budget

-- a log shows that the property holds
abbrev pub IsFound : Asked → Env → EnvAnswer → Type 0
IsFound q env (Holds log) = IsRefuted q env log
IsFound q env (Violated w) = ⊤
IsFound q env (Spent log) = ⊤
IsFound q env OverLimit = ⊤

-- what is asked under a schema of one or two policy sets, within a budget
abbrev pub asked : Declarations → Question → List Policy → Option (List Policy) → ℕ → Asked
asked s question first against budget =
    record { schema = s; question = question; first = first; second = unwrap_or against []; budget = budget }

-- what is asked by the inputs of a command, within a budget
abbrev pub asked_within : Asking → ℕ → Asked
asked_within i budget = asked i.schema i.question i.policies i.against budget

abbrev pub asked_in : Analysis → Asked
asked_in i = asked_within i.asking i.budget

-- these may be asked
pub record MayBeAsked (i : Asking) : Type 0 where
  pub served : AreServed i.schema i.policies i.against
  pub sets : is_some i.against ≡ takes_two i.question

-- the query of these inputs
pub record IsQueryOf (i : Asking) (q : Query) : Type 0 where
  pub question : q.question ≡ i.question
  pub first : q.first ≡ i.policies
  pub against : q.against ≡ i.against
