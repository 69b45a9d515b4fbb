-- A query has a goal in each environment, and what the solver answers of its problem is a verdict.
use Rattle.std.proofs.Common.{◌≡◌, ◌↔◌, ◌⊎◌, ◌++◌, ℕ, List, [], not, Option, Some, None, IfSome, IsSome, Contains, unwrap_or, refl, sym, ap, ◌∙◌, subst, ⊎_elim}
use Rattle.std.specs.List.{AllByRecursion}
use Rattle.std.specs.Option.{option_or}
use Rattle.std.proofs.lemmas.List.Elements.{Contains-append_left, Contains-append_right, Contains-append_cases}
use Rattle.std.proofs.lemmas.Bool.{true_from_ne_false}
use Rattle.sc_laws.proofs.BoolLaws.{not_true}
use Rattle.sc_lists.proofs.ListLaws.{all_of_elements}
use Rattle.sc_ast.specs.declared.policy.Policy.{Policy}
use Rattle.sc_ast.specs.Literals.{literals}
use Rattle.sc_clauses.specs.declared.step.Step.{Step}
use Rattle.sc_footprint.specs.Atoms.{IsOverLimit}
use Rattle.sc_footprint.specs.Problems.{Posed, IsPosed, IsProblemOf}
use Rattle.sc_footprint.specs.Problems as problem
use Rattle.sc_term_definitions.specs.Truths.{is_true}
use Rattle.sc_footprint.specs.Truths.{Satisfies, IsUnsatisfiable}
use Rattle.sc_goal.specs.Goals.{all_compiled, goal_term}
use Rattle.sc_goal.specs.Properties.{has}
use Rattle.sc_goal.specs.Queries.{Asked as Query, IsAsked, second}
use Rattle.sc_inputs.specs.Readings.{ReadsAll}
use Rattle.sc_inputs.specs.Refusals.{Content, Side, policies_side, against_side, on, in_against, first_fault, AreServed}
use Rattle.sc_inputs.specs.Serving.{Aim, has_second}
use Rattle.sc_inputs.specs.declared.inputs.Asking.{Asking}
use Rattle.sc_names.specs.declared.uid.Uid.{Uid}
use Rattle.sc_question.specs.Questions.{takes_two}
use Rattle.sc_question.specs.declared.question.Question.{Question}
use Rattle.sc_schema.specs.declared.declarations.Env.{Env}
use Rattle.sc_schema.specs.Declarations.{Declarations, environments}
use Rattle.sc_schema.specs.Lawful.{IsLawful}
use Rattle.sc_solver.specs.Solutions.{IsSpent}
use Rattle.sc_sorts.specs.declared.node.Node.{Node}
use Rattle.sc_terms.specs.Tables.{StandsFor}
use Rattle.sc_terms.specs.Trees.{Tree}
use Rattle.sc_terms.specs.Values.{val, truth}
use Rattle.sc_typing.specs.Checking.{type_fault, fault_from}
use Rattle.sc_typing.specs.Names.{name_fault}
use Rattle.sc_world.specs.declared.world.World.{World}
use Rattle.sc_world.specs.Named.{IsDeclared}
use Rattle.sc_world.specs.WellFormed.{IsWellFormed}
use Rattle.sc_reports.specs.Analyses.{asked, asked_of, asked_within, IsAnswer, IsGoalOf, IsQueryOf, MayBeAsked, MayBePosed}
use Rattle.sc_reports.specs.View.{IsPrintable}
use Rattle.sc_reports.specs.declared.analysing.EnvAnswer.{EnvAnswer}
use Rattle.sc_reports.specs.declared.analysing.EnvAnswer.TheVariants.{Holds, Violated, Spent, OverLimit}
use Rattle.sc_reports.specs.Reports.{Asked, written_uids, has_property, IsWorldOf, AlwaysHas, Violates, IsProblem, IsUndecided, HasRoom, IsTooLarge}

-- ---- the laws of other crates on which these rest

abbrev Compiling : Type 0
Compiling = (s : Declarations) (env : Env) (ps : List Policy) → type_fault s ps ≡ None → Contains (environments s) env → IsSome (all_compiled s env ps)

abbrev Posing : Type 0
Posing = (s : Declarations) (env : Env) (q : Question) (a b : List Policy) → IsSome (all_compiled s env a) → IsSome (all_compiled s env b) → IsSome (goal_term s env q a b)

abbrev Declaring : Type 0
Declaring = (s : Declarations) (ps : List Policy) (u : Uid) → name_fault s ps ≡ None → Contains (literals ps) u → IsDeclared s u

abbrev Right : Type 0
Right = (s : Declarations) (env : Env) (lits : List Uid) (w : World) (q : Question) (a b : List Policy) (t : Tree)
    → IsLawful s → IsWellFormed s env lits w → ((u : Uid) → Contains (literals a) u → Contains lits u) → ((u : Uid) → Contains (literals b) u → Contains lits u)
    → goal_term s env q a b ≡ Some t → truth (val t w) ≡ not (has q a b w)

abbrev Fewer : Type 0
Fewer = (s : Declarations) (env : Env) (us vs : List Uid) (w : World) → ((u : Uid) → Contains us u → Contains vs u) → IsWellFormed s env vs w → IsWellFormed s env us w

-- ---- one set or two

no-left : {F : Type 0} (a b : Option F) → option_or a b ≡ None → a ≡ None
no-left None b e = refl
no-left (Some x) b e = absurd cc

no-right : {F : Type 0} (a b : Option F) → option_or a b ≡ None → b ≡ None
no-right None b e = e
no-right (Some x) b e = absurd cc

not-on : {F : Type 0} (side : Side) (o : Option F) → on side o ≡ None → o ≡ None
not-on side None e = refl
not-on side (Some f) e = absurd cc

pub first-none : {F : Type 0} (fault : List Policy → Option F) (first : List Policy) (against : Option (List Policy)) → first_fault fault first against ≡ None → fault first ≡ None
first-none fault first against e = not-on policies_side (fault first) (no-left (on policies_side (fault first)) (in_against fault against) e)

second-none : {F : Type 0} (fault : List Policy → Option F) (first : List Policy) (against : Option (List Policy)) → fault [] ≡ None → first_fault fault first against ≡ None → fault (unwrap_or against []) ≡ None
second-none fault first None empty e = empty
second-none fault first (Some ps) empty e = not-on against_side (fault ps) (no-right (on policies_side (fault first)) (on against_side (fault ps)) e)

empty-typed : (s : Declarations) → type_fault s [] ≡ None
unfolding fault_from
empty-typed s = refl

-- ---- the goal of a query

pub query-posed : Compiling → Posing → (s : Declarations) (env : Env) (q : Query) → AreServed s q.first q.against → Contains (environments s) env → IsSome (goal_term s env q.question q.first (second q))
query-posed compiled posed s env q served among =
    posed s env q.question q.first (second q)
    (compiled s env q.first (first-none (type_fault s) q.first q.against served.typed) among)
    (compiled s env (second q) (second-none (type_fault s) q.first q.against (empty-typed s) served.typed) among)

-- there is one, and it is what a number stands for
pub some-goal : (o : Option Tree) → IsSome o → (t : Tree) × (o ≡ Some t)
some-goal None h = absurd cc
some-goal (Some t) h = (t, refl)

pub goal-stands : (o : Option Tree) (nodes : List Node) (n : ℕ) → IsSome o → IfSome o (λ t. StandsFor nodes n t) → (t : Tree) × (o ≡ Some t) × StandsFor nodes n t
goal-stands None nodes n h stands = absurd cc
goal-stands (Some t) nodes n h stands = (t, refl, stands)

-- it may be asked of an environment
pub may-be-posed : Compiling → Posing → (s : Declarations) (env : Env) (q : Query) → AreServed s q.first q.against → Contains (environments s) env → MayBePosed s env q
may-be-posed compiled posed s env q served among = record {
  environment = among;
  first_declared = first-none (name_fault s) q.first q.against served.declared;
  second_declared = second-none (name_fault s) q.first q.against refl served.declared;
  typed = query-posed compiled posed s env q served among;
}

-- the uids of a query are declared
pub query-declared : Declaring → (s : Declarations) (env : Env) (q : Query) → IsAsked q → MayBePosed s env q → AllByRecursion (IsDeclared s) q.literals
query-declared declared s env q asked may =
    all_of_elements (IsDeclared s) q.literals
    (λ u c. ⊎_elim
    (λ (h : Contains (literals q.first) u). declared s q.first u may.first_declared h)
    (λ (h : Contains (literals (second q)) u). declared s (second q) u may.second_declared h)
    ((asked.written u).0 c))

-- ---- the problem of a query

either-set : (xs ys : List Uid) (u : Uid) → Contains xs u ⊎ Contains ys u → Contains (xs ++ ys) u
either-set xs ys u h = ⊎_elim (λ (a : Contains xs u). Contains-append_left xs ys u a) (λ (b : Contains ys u). Contains-append_right xs ys u b) h

written-in : (q : Query) → IsAsked q → (lits : List Uid) → lits ≡ q.literals → (u : Uid) → Contains lits u ↔ Contains (literals q.first ++ literals (second q)) u
written-in q asked lits is u = (
  λ c. either-set (literals q.first) (literals (second q)) u ((asked.written u).0 (subst (λ us. Contains us u) is c)),
  λ c. subst (λ us. Contains us u) (sym is) ((asked.written u).1 (Contains-append_cases (literals q.first) (literals (second q)) u c)),
)

pub query-problem : (s : Declarations) (env : Env) (q : Query) (budget : ℕ) (p : Posed) (t : Tree) → IsAsked q → IsPosed p → IsGoalOf s env q t → IsProblemOf s env q.literals t p → IsProblem (asked_of s q budget) env p
query-problem s env q budget p t asked posed goal is = record {
  posed = posed;
  schema_is = is.schema_is;
  env_is = is.env_is;
  literals_are = written-in q asked p.literals is.literals_are;
  goal_is = record { is = goal ∙ ap Some (sym is.goal_is) };
}

pub query-too-large : (s : Declarations) (env : Env) (q : Query) (budget : ℕ) (t : Tree) → IsGoalOf s env q t → IsOverLimit s env t → IsTooLarge (asked_of s q budget) env
query-too-large s env q budget t goal over = record { goal = t; is_goal = record { is = goal }; over_limit = over }

-- ---- verdicts

-- the goal is true where the property fails
goal-truth : Right → (q : Asked) (env : Env) (p : Posed) (w : World) → IsLawful q.schema → IsProblem q env p → IsWorldOf q env w → is_true (problem.goal_term p) w ≡ not (has_property q w)
goal-truth right q env p w lawful is world =
    right q.schema env (written_uids q) w q.question q.first q.second (problem.goal_term p) lawful world
    (λ u c. Contains-append_left (literals q.first) (literals q.second) u c) (λ u c. Contains-append_right (literals q.first) (literals q.second) u c) is.goal_is.is

-- the worlds of the question are those of the problem
to-problem : Fewer → (q : Asked) (env : Env) (p : Posed) (w : World) → IsProblem q env p → IsWorldOf q env w → IsWellFormed p.schema p.env p.literals w
to-problem fewer q env p w is world =
    subst (λ s. IsWellFormed s p.env p.literals w) (sym is.schema_is)
    (subst (λ e. IsWellFormed q.schema e p.literals w) (sym is.env_is) (fewer q.schema env p.literals (written_uids q) w (λ u c. (is.literals_are u).0 c) world))

to-question : Fewer → (q : Asked) (env : Env) (p : Posed) (w : World) → IsProblem q env p → IsWellFormed p.schema p.env p.literals w → IsWorldOf q env w
to-question fewer q env p w is world =
    fewer q.schema env (written_uids q) p.literals w (λ u c. (is.literals_are u).1 c)
    (subst (λ e. IsWellFormed q.schema e p.literals w) is.env_is (subst (λ s. IsWellFormed s p.env p.literals w) is.schema_is world))

-- a goal that is true in no world shows that the property always holds
pub refuted-holds : Right → Fewer → (q : Asked) (env : Env) (p : Posed) → IsLawful q.schema → IsProblem q env p → IsUnsatisfiable p → AlwaysHas q env
refuted-holds right fewer q env p lawful is none w world =
    true_from_ne_false (has_property q w)
    (λ lacks. none w (record { well_formed = to-problem fewer q env p w is world; goal_true = goal-truth right q env p w lawful is world ∙ ap not lacks }))

-- a world in which it is true lacks the property
pub satisfied-violates : Right → Fewer → (q : Asked) (env : Env) (p : Posed) (w : World) → IsLawful q.schema → IsProblem q env p → Satisfies p w → Violates q env w
satisfied-violates right fewer q env p w lawful is found =
    let world = to-question fewer q env p w is found.well_formed in
    record { well_formed = world; lacks = not_true (has_property q w) (sym found.goal_true ∙ goal-truth right q env p w lawful is world) }

pub has-room : (q : Asked) (env : Env) (p : Posed) → IsProblem q env p → HasRoom q env
has-room q env p is = record { posed = p; is_problem = is; few = is.posed.few }

pub spent-undecided : (q : Asked) (env : Env) (p : Posed) (log : List Step) → IsProblem q env p → IsSpent p q.budget log
    → (q.budget ≡ q.budget) × IsUndecided q env q.budget log × HasRoom q env
spent-undecided q env p log is spent = (refl, record { posed = p; is_problem = is; spent = spent }, has-room q env p is)

-- ---- what a command asks

-- what is read for an aim that asks the question as it stands may be asked
pub may-be-asked : (content : Content) (words : List (List ℕ)) (i : Asking) (aim : Aim) → has_second aim i.question ≡ takes_two i.question
    → ReadsAll content words i.schema i.question i.policies i.against aim → MayBeAsked i
may-be-asked content words i aim plain read = record { served = read.reached.served; sets = read.sets ∙ plain }

-- the query of a command asks what the command does
pub asked-same : (i : Asking) (budget : ℕ) (q : Query) → IsQueryOf i q → asked_of i.schema q budget ≡ asked_within i budget
asked-same i budget q is =
    ap (λ x. asked i.schema x q.first q.against budget) is.question
    ∙ ap (λ ps. asked i.schema i.question ps q.against budget) is.first
    ∙ ap (λ o. asked i.schema i.question i.policies o budget) is.against

pub query-served : (i : Asking) (q : Query) → IsQueryOf i q → MayBeAsked i → AreServed i.schema q.first q.against
query-served i q is may =
    subst (λ ps. AreServed i.schema ps q.against) (sym is.first) (subst (λ o. AreServed i.schema i.policies o) (sym is.against) may.served)

pub query-answered : (i : Asking) (budget : ℕ) (q : Query) (env : Env) (a : EnvAnswer) → IsQueryOf i q → IsAnswer (asked_of i.schema q budget) env a → IsAnswer (asked_within i budget) env a
query-answered i budget q env a is answer = subst (λ x. IsAnswer x env a) (asked-same i budget q is) answer

-- a world that is answered can be printed
pub answer-printable : (q : Asked) (env : Env) (a : EnvAnswer) → IsAnswer q env a → IsPrintable a
answer-printable q env (Holds log) answer = tt
answer-printable q env (Violated w) answer = answer.0.well_formed.proper
answer-printable q env (Spent log) answer = tt
answer-printable q env OverLimit answer = tt
