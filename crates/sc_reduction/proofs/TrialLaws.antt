-- A trial has a goal in each environment, and what the solver answers of its problem is a finding.
use Rattle.std.proofs.Common.{◌≡◌, ◌↔◌, ◌⊎◌, ℕ, Bool, true, false, List, [], not, Option, Some, None, IfSome, IsSome, Contains, inl, unwrap_or, refl, sym, ap, ◌∙◌, subst, ⊎_elim}
use Rattle.std.specs.List.{AllByRecursion}
use Rattle.std.proofs.lemmas.Bool.{true_from_ne_false}
use Rattle.sc_laws.proofs.BoolLaws.{not_true}
use Rattle.sc_ast.specs.declared.policy.Policy.{Policy}
use Rattle.sc_ast.specs.Literals.{literals}
use Rattle.sc_clauses.specs.declared.step.Step.{Step}
use Rattle.sc_term_definitions.specs.Truths.{is_true}
use Rattle.sc_footprint.specs.Atoms.{IsOverLimit}
use Rattle.sc_footprint.specs.Goals as closing
use Rattle.sc_footprint.specs.Problems.{Posed, IsPosed, IsProblemOf}
use Rattle.sc_footprint.specs.Problems as problem
use Rattle.sc_footprint.specs.Truths.{Satisfies, IsUnsatisfiable}
use Rattle.sc_goal.proofs.SelectionsLaws.{all_of_selected, selected_compiled, selected_uids}
use Rattle.sc_goal.specs.Goals.{all_compiled, compiled, goal_term}
use Rattle.sc_goal.specs.Properties.{has}
use Rattle.sc_goal.specs.Queries.{Asked as Query, IsAsked, second as second_of}
use Rattle.sc_goal.specs.Selections.{selected}
use Rattle.sc_names.specs.declared.uid.Uid.{Uid}
use Rattle.sc_sorts.specs.declared.node.Node.{Node}
use Rattle.sc_goal_laws.proofs.WrittenLaws.{declared_passes, set_written}
use Rattle.sc_question.specs.declared.question.Question.{Question}
use Rattle.sc_question.specs.declared.question.Question.TheVariants.{Equivalent}
use Rattle.sc_schema.specs.declared.declarations.Env.{Env}
use Rattle.sc_schema.specs.Declarations.{Declarations, environments}
use Rattle.sc_schema.specs.Lawful.{IsLawful}
use Rattle.sc_solver.specs.Solutions.{IsSpent}
use Rattle.sc_symeval_laws.specs.Written.{IsSetting, IsWritten}
use Rattle.sc_terms.specs.Tables.{StandsFor}
use Rattle.sc_terms.specs.Trees.{Tree}
use Rattle.sc_terms.specs.Values.{val, truth}
use Rattle.sc_typing.specs.Checking.{type_fault}
use Rattle.sc_typing.specs.Names.{name_fault}
use Rattle.sc_world.specs.declared.world.World.{World}
use Rattle.sc_world.specs.Named.{IsDeclared}
use Rattle.sc_world.specs.WellFormed.{IsWellFormed}
use Rattle.sc_reduction.specs.Reductions.{MayBeReduced}
use Rattle.sc_reduction.specs.Trials.{Trial, first, second, AlwaysAlike, IsGoal, IsProblem, IsTooLarge, IsUndecided, IsWorldOf, TellsApart, decide_alike}

-- ---- the laws of other crates on which these rest

abbrev Compiling : Type 0
Compiling = (s : Declarations) (env : Env) (ps : List Policy) → type_fault s ps ≡ None → Contains (environments s) env → IsSome (all_compiled s env ps)

abbrev Posing : Type 0
Posing = (s : Declarations) (env : Env) (q : Question) (a b : List Policy) → IsSome (all_compiled s env a) → IsSome (all_compiled s env b) → IsSome (goal_term s env q a b)

abbrev Declaring : Type 0
Declaring = (s : Declarations) (ps : List Policy) (u : Uid) → name_fault s ps ≡ None → Contains (literals ps) u → IsDeclared s u

abbrev Goals : Type 0
Goals = (s : Declarations) (env : Env) (lits : List Uid) (q : Question) (a b : List Policy) (t : Tree) → IsSetting s env lits → AllByRecursion (IsWritten lits) a → AllByRecursion (IsWritten lits) b
    → goal_term s env q a b ≡ Some t → closing.IsGoal s env lits t

abbrev Right : Type 0
Right = (s : Declarations) (env : Env) (lits : List Uid) (w : World) (q : Question) (a b : List Policy) (t : Tree)
    → IsLawful s → IsWellFormed s env lits w → ((u : Uid) → Contains (literals a) u → Contains lits u) → ((u : Uid) → Contains (literals b) u → Contains lits u)
    → goal_term s env q a b ≡ Some t → truth (val t w) ≡ not (has q a b w)

abbrev Fewer : Type 0
Fewer = (s : Declarations) (env : Env) (us vs : List Uid) (w : World) → ((u : Uid) → Contains us u → Contains vs u) → IsWellFormed s env vs w → IsWellFormed s env us w

-- ---- a query of a set with itself

pub second_is : (s : Declarations) (q : Query) → MayBeReduced s q → second_of q ≡ q.first
second_is s q may = ap (λ (o : Option (List Policy)). unwrap_or o []) may.itself

pub query_posed : Compiling → Posing → (s : Declarations) (env : Env) (q : Query) → MayBeReduced s q → Contains (environments s) env → IsSome (goal_term s env q.question q.first (second_of q))
query_posed compiles posed s env q may among =
    let all = compiles s env q.first may.typed among in
    posed s env q.question q.first (second_of q) all (subst (λ (ps : List Policy). IsSome (all_compiled s env ps)) (sym (second_is s q may)) all)

-- ---- the goal of a trial

abbrev pub trial : Declarations → Query → List Bool → List Bool → ℕ → Trial
trial s q left right budget = record { schema = s; policies = q.first; left = left; right = right; budget = budget }

some_goal : (o : Option Tree) → IsSome o → (t : Tree) × (o ≡ Some t)
some_goal None h = absurd (let clash : false ≡ true = h in cc)
some_goal (Some t) h = (t, refl)

-- there is one
pub trial_goal : Compiling → Posing → (s : Declarations) (env : Env) (q : Query) (left right : List Bool) (budget : ℕ) → MayBeReduced s q → Contains (environments s) env → (t : Tree) × IsGoal (trial s q left right budget) env t
trial_goal compiles posed s env q left right budget may among =
    let all = compiles s env q.first may.typed among in
    let g = some_goal (goal_term s env Equivalent (selected left q.first) (selected right q.first))
    (posed s env Equivalent (selected left q.first) (selected right q.first) (selected_compiled (compiled s env) left q.first all) (selected_compiled (compiled s env) right q.first all)) in
    (g.0, record { is = g.1 })

-- and one alone
pub one_goal : (t : Trial) (env : Env) (a b : Tree) → IsGoal t env a → IsGoal t env b → a ≡ b
one_goal t env a b h k = ap (λ (o : Option Tree). unwrap_or o a) (sym h.is ∙ k.is)

-- it is what a number stands for that stands for the goal of the query's marked policies
pub goal_stands : (s : Declarations) (env : Env) (q : Query) (left right : List Bool) (budget n : ℕ) (nodes : List Node) (t : Tree) → MayBeReduced s q → IsGoal (trial s q left right budget) env t
    → IfSome (goal_term s env q.question (selected left q.first) (selected right (second_of q))) (λ (x : Tree). StandsFor nodes n x) → StandsFor nodes n t
goal_stands s env q left right budget n nodes t may goal h =
    let same = ap (λ (x : Question). goal_term s env x (selected left q.first) (selected right (second_of q))) may.question
    ∙ ap (λ (ps : List Policy). goal_term s env Equivalent (selected left q.first) (selected right ps)) (second_is s q may) ∙ goal.is in
    subst (λ (o : Option Tree). IfSome o (λ (x : Tree). StandsFor nodes n x)) same h

-- ---- the uids of a query

from_first : (s : Declarations) (q : Query) → IsAsked q → MayBeReduced s q → (u : Uid) → Contains q.literals u → Contains (literals q.first) u
from_first s q asked may u c =
    ⊎_elim (λ (h : Contains (literals q.first) u). h) (λ (h : Contains (literals (second_of q)) u). subst (λ (ps : List Policy). Contains (literals ps) u) (second_is s q may) h) ((asked.written u).0 c)

-- they are declared, so the goal is what the closure of problems asks of one
pub trial_closes : Goals → Declaring → (s : Declarations) (env : Env) (q : Query) (left right : List Bool) (budget : ℕ) (t : Tree) → IsLawful s → Contains (environments s) env → IsAsked q → MayBeReduced s q
    → IsGoal (trial s q left right budget) env t → closing.IsGoal s env q.literals t
trial_closes goals declaring s env q left right budget t lawful among asked may goal =
    let written = set_written q.literals q.first (λ u c. (asked.written u).1 (inl c)) asked.first_proper in
    goals s env q.literals Equivalent (selected left q.first) (selected right q.first) t
    (record { lawful = lawful; environment = among; declared = λ u c. declared_passes s u (declaring s q.first u may.declared (from_first s q asked may u c)) })
    (all_of_selected (IsWritten q.literals) left q.first written) (all_of_selected (IsWritten q.literals) right q.first written) goal.is

-- ---- the problem of a trial

pub trial_problem : (s : Declarations) (env : Env) (q : Query) (left right : List Bool) (budget : ℕ) (p : Posed) (t : Tree) → IsAsked q → MayBeReduced s q → IsPosed p → IsGoal (trial s q left right budget) env t
    → IsProblemOf s env q.literals t p → IsProblem (trial s q left right budget) env p
trial_problem s env q left right budget p t asked may posed goal is = record {
  posed = posed;
  schema_is = is.schema_is;
  env_is = is.env_is;
  literals_are = λ u. (
    λ c. from_first s q asked may u (subst (λ (us : List Uid). Contains us u) is.literals_are c),
    λ c. subst (λ (us : List Uid). Contains us u) (sym is.literals_are) ((asked.written u).1 (inl c)),
  );
  goal_is = record { is = goal.is ∙ ap Some (sym is.goal_is) };
}

-- ---- what is found

module _ (right : Right) (fewer : Fewer) (t : Trial) (env : Env) (p : Posed) (lawful : IsLawful t.schema) (is : IsProblem t env p) where
  -- the goal is true where they don't decide alike
  goal_truth : (w : World) → IsWorldOf t env w → is_true (problem.goal_term p) w ≡ not (decide_alike t w)
  goal_truth w world =
      right t.schema env (literals t.policies) w Equivalent (first t) (second t) (problem.goal_term p) lawful world
      (λ u c. selected_uids t.left t.policies u c) (λ u c. selected_uids t.right t.policies u c) is.goal_is.is

  -- the worlds of the trial are those of the problem
  to_problem : (w : World) → IsWorldOf t env w → IsWellFormed p.schema p.env p.literals w
  to_problem w world =
      subst (λ s. IsWellFormed s p.env p.literals w) (sym is.schema_is)
      (subst (λ e. IsWellFormed t.schema e p.literals w) (sym is.env_is) (fewer t.schema env p.literals (literals t.policies) w (λ u c. (is.literals_are u).0 c) world))

  to_trial : (w : World) → IsWellFormed p.schema p.env p.literals w → IsWorldOf t env w
  to_trial w world =
      fewer t.schema env (literals t.policies) p.literals w (λ u c. (is.literals_are u).1 c)
      (subst (λ e. IsWellFormed t.schema e p.literals w) is.env_is (subst (λ s. IsWellFormed s p.env p.literals w) is.schema_is world))

  pub refuted_alike : IsUnsatisfiable p → AlwaysAlike t env
  refuted_alike none w world =
      true_from_ne_false (decide_alike t w) (λ differs. none w (record { well_formed = to_problem w world; goal_true = goal_truth w world ∙ ap not differs }))

  pub satisfied_differs : (w : World) → Satisfies p w → TellsApart t env w
  satisfied_differs w found =
      let world = to_trial w found.well_formed in
      record { well_formed = world; differs = not_true (decide_alike t w) (sym found.goal_true ∙ goal_truth w world) }

pub spent_undecided : (t : Trial) (env : Env) (p : Posed) (log : List Step) → IsProblem t env p → IsSpent p t.budget log → IsUndecided t env log
spent_undecided t env p log is spent = record { posed = p; is_problem = is; spent = spent }

pub too_large : (t : Trial) (env : Env) (goal : Tree) → IsGoal t env goal → IsOverLimit t.schema env goal → IsTooLarge t env
too_large t env goal is over = record { goal = goal; is_goal = is; over_limit = over }
