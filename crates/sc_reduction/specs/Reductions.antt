-- Reductions: which policies of a set stay, and why.
use Rattle.std.specs.Prelude.{◌≡◌, ℕ, List, Bool, true, false, map, length, Some, None, slice_get, slice_set, ⊤}
use Rattle.std.specs.List.{AllByRecursion}
use Rattle.sc_ast.specs.Literals.{literals}
use Rattle.sc_ast.specs.declared.policy.Policy.{Policy}
use Rattle.sc_auth.specs.Decisions.{allows}
use Rattle.sc_schema.specs.declared.declarations.Env.{Env}
use Rattle.sc_schema.specs.Declarations.{Declarations, environments}
use Rattle.sc_typing.specs.Checking.{type_fault}
use Rattle.sc_typing.specs.Names.{name_fault}
use Rattle.sc_world.specs.declared.world.World.{World}
use Rattle.sc_world.specs.WellFormed.{IsWellFormed}
use Rattle.sc_question.specs.declared.question.Question.TheVariants.{Equivalent}
use Rattle.sc_goal.specs.Queries.{Asked as Query}
use Rattle.sc_goal.specs.Selections.{selected}
use Rattle.sc_reduction.specs.Trials.{Trial, Finds}
use Rattle.sc_reduction.specs.declared.fate.Fate.{Fate}
use Rattle.sc_reduction.specs.declared.fate.Fate.TheVariants.{Dropped, Kept, Unproved, TooLarge}

-- what is to be reduced: the policies of a file, under a schema, within a budget for each policy in each environment
pub record Asked : Type 0 where
  pub schema : Declarations
  pub policies : List Policy
  pub budget : ℕ

abbrev pub asked_of : Declarations → Query → ℕ → Asked
asked_of s q budget = record { schema = s; policies = q.first; budget = budget }

-- the query compares a set with itself, and the set writes declared names alone and is typed in each environment
pub record MayBeReduced (s : Declarations) (q : Query) : Type 0 where
  pub question : q.question ≡ Equivalent
  pub itself : q.against ≡ Some q.first
  pub declared : name_fault s q.first ≡ None
  pub typed : type_fault s q.first ≡ None

-- ---- what stays

abbrev pub stays : Fate → Bool
stays Dropped = false
stays (Kept n w) = true
stays (Unproved n log) = true
stays (TooLarge n) = true

-- the marks of the policies that stay
abbrev pub kept : List Fate → List Bool
kept fates = map stays fates

-- the policies that are marked, compared with those without the one at a place
abbrev pub without : Asked → List Bool → ℕ → Trial
without r marks place = record {
  schema = r.schema;
  policies = r.policies;
  left = marks;
  right = slice_set marks place false;
  budget = r.budget;
}

-- why the policy at a place stays, where it does: what is found of those that are marked without it
abbrev pub IsFate : Asked → List Bool → ℕ → Fate → Type 0
IsFate r marks place Dropped = ⊤
IsFate r marks place (Kept n w) = Finds (without r marks place) (Kept n w)
IsFate r marks place (Unproved n log) = Finds (without r marks place) (Unproved n log)
IsFate r marks place (TooLarge n) = Finds (without r marks place) (TooLarge n)

-- in each well-formed world of the environment those that are marked allow exactly where the whole file does
abbrev pub DecidesAsAll : Asked → List Bool → Env → Type 0
DecidesAsAll r marks env = (w : World) → IsWellFormed r.schema env (literals r.policies) w
    → allows w (selected marks r.policies) ≡ allows w r.policies

abbrev pub IsEquivalent : Asked → List Bool → Type 0
IsEquivalent r marks = AllByRecursion (DecidesAsAll r marks) (environments r.schema)

-- One fate for each policy, by its place. Each that stays does so among those that stay in the end; these decide as
-- the whole file does.
pub record IsReduction (r : Asked) (fates : List Fate) : Type 0 where
  pub one_each : length fates ≡ length r.policies
  pub fates_true : (place : ℕ) (fate : Fate) → slice_get fates place ≡ Some fate → IsFate r (kept fates) place fate
  pub equivalent : IsEquivalent r (kept fates)
