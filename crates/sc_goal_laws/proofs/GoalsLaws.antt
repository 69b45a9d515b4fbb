-- Goals are plain: what policies are compiled to, what sets of them decide, and the goal of a question.
use Rattle.std.proofs.Common.{◌≡◌, inl, inr, Bool, not, List, [], ◌∷◌, map, filter, All, Some, Contains, ap, sym, subst}
use Rattle.std.specs.List.{AllByRecursion}
use Rattle.std.proofs.lemmas.List.Elements.{All-nil, All-cons, All-filter, All-map}
use Rattle.sc_lists.proofs.ListLaws.{all_always, all_element, all_of_elements, all_weaker, contains_map, contains_from_map, joined_from}
use Rattle.sc_names.specs.declared.uid.Uid.{Uid}
use Rattle.sc_ast.specs.Conditions.{condition}
use Rattle.sc_ast.specs.Literals.{policy_uids}
use Rattle.sc_ast.specs.declared.policy.Policy.{Policy}
use Rattle.sc_auth.specs.Decisions.{permits}
use Rattle.sc_schema.specs.declared.declarations.Action.{Action}
use Rattle.sc_schema.specs.declared.declarations.Env.{Env}
use Rattle.sc_schema.specs.Declarations.{Declarations, action_uids, environment, environments_for, environments}
use Rattle.sc_world.specs.Named.{IsDeclared}
use Rattle.sc_world.specs.declared.world.World.{World}
use Rattle.sc_typing_laws.proofs.DeclaredLaws.{declared_of}
use Rattle.sc_eval.specs.Written.{constants}
use Rattle.sc_question.specs.declared.question.Question.{Question}
use Rattle.sc_question.specs.declared.question.Question.TheVariants.{NeverErrors, AlwaysAllows, AlwaysDenies, Implies, Equivalent, Disjoint}
use Rattle.sc_soundness_laws.proofs.ActingLaws.{acting-uids}
use Rattle.sc_soundness_laws.proofs.ConditionLaws.{condition-uids}
use Rattle.sc_sorts.specs.declared.sort.Sort.TheVariants as sort
use Rattle.sc_terms.specs.Trees.{Tree}
use Rattle.sc_terms.specs.Folds.{not_term, equal_term}
use Rattle.sc_term_laws.specs.Judging.{IsTermOf}
use Rattle.sc_closure_rules.specs.Goals.{IsGoal, uids_of}
use Rattle.sc_typing.specs.Policies.{asked}
use Rattle.sc_constructs.specs.Code.{Code}
use Rattle.sc_symeval.specs.Compiling.{policy_code}
use Rattle.sc_symeval_laws.specs.Written.{IsSetting, IsWritten}
use Rattle.sc_symeval_laws.proofs.DecidedLaws.{LiteralLaw}
use Rattle.sc_symeval_laws.proofs.ExpressionLaws.{Derived, derivation_of}
use Rattle.sc_symeval_laws.proofs.JudgedLaws.{IsNamed}
use Rattle.sc_symeval_laws.proofs.KeptLaws.{terms_of}
use Rattle.sc_symeval_laws.proofs.PolicyLaws.{typed_as}
use Rattle.sc_symeval_laws.proofs.SortedKept.{AnyValue}
use Rattle.sc_symauth.specs.Standings.{Compiled, satisfied, error, any_satisfied, allow, any_error}
use Rattle.sc_goal.specs.Goals.{goal_of, compiled, all_compiled, goal_term}
use Rattle.sc_goal.proofs.RightLaws.{parts_of, no_parts, compiled_of, goal_parts}
use Rattle.sc_goal_laws.proofs.PlainLaws.{IsPlain, no_pick, uids_named, not_plain, and_plain, equal_plain, any_plain}
use Rattle.sc_goal_laws.proofs.KeptLaws.{IsOf, plain_kept}

-- ---- what compiled policies decide

module _ (Named : Uid → Type 0) where
  -- both its terms are plain
  abbrev ArePlainOf : Compiled → Type 0
  ArePlainOf c = IsPlain Named c.code.ok × IsPlain Named c.code.val

  any_satisfied_plain : (test : Compiled → Bool) (cs : List Compiled) → All ArePlainOf cs → IsPlain Named (any_satisfied test cs)
  any_satisfied_plain test cs h =
      any_plain Named _
      (All-map (IsPlain Named) (λ (c : Compiled). satisfied c.code) (filter test cs)
      (All-filter test (λ (c : Compiled). IsPlain Named (satisfied c.code)) cs (λ i c e. and_plain Named _ _ (h i c e).0 (h i c e).1)))

  allow_plain : (cs : List Compiled) → All ArePlainOf cs → IsPlain Named (allow cs)
  allow_plain cs h =
      and_plain Named _ _ (any_satisfied_plain (λ (c : Compiled). permits c.effect) cs h)
      (not_plain Named _ (any_satisfied_plain (λ (c : Compiled). not (permits c.effect)) cs h))

  any_error_plain : (cs : List Compiled) → All ArePlainOf cs → IsPlain Named (any_error cs)
  any_error_plain cs h = any_plain Named _ (All-map (IsPlain Named) (λ (c : Compiled). error c.code) cs (λ i c e. not_plain Named _ (h i c e).0))

  goal_of_plain : (q : Question) (x y : List Compiled) → All ArePlainOf x → All ArePlainOf y → IsPlain Named (goal_of q x y)
  goal_of_plain NeverErrors x y h k = any_error_plain x h
  goal_of_plain AlwaysAllows x y h k = not_plain Named (allow x) (allow_plain x h)
  goal_of_plain AlwaysDenies x y h k = allow_plain x h
  goal_of_plain Implies x y h k = and_plain Named (allow x) (not_term (allow y)) (allow_plain x h) (not_plain Named (allow y) (allow_plain y k))
  goal_of_plain Equivalent x y h k = not_plain Named (equal_term (allow x) (allow y)) (equal_plain Named (allow x) (allow y) (allow_plain x h) (allow_plain y k))
  goal_of_plain Disjoint x y h k = and_plain Named (allow x) (allow y) (allow_plain x h) (allow_plain y k)

-- ---- what policies are compiled to

-- an environment's action is declared
action_declared : (s : Declarations) (env : Env) → Contains (environments s) env → Contains (action_uids s) env.action
action_declared s env has =
    let a = joined_from environments_for s.actions env has in
    let p = joined_from (λ n. map (environment a.0 n) a.0.resources) a.0.principals env a.2 in
    let r = contains_from_map (environment a.0 p.0) a.0.resources env p.2 in
    subst (Contains (action_uids s)) (ap (λ (e : Env). e.action) r.2) (contains_map (λ (b : Action). b.uid) s.actions a.0 a.1)

-- a world, of which nothing is asked
nowhere : Env → World
nowhere env = record { request = record { principal = env.action; action = env.action; resource = env.action; context = [] }; store = [] }

module _ (literal : LiteralLaw) (derived : Derived) (s : Declarations) (env : Env) (lits : List Uid) (setting : IsSetting s env lits) where
  abbrev Named : Uid → Type 0
  Named = IsNamed s lits

  acting_named : Named env.action
  acting_named = inr (action_declared s env setting.environment)

  code_plain : (p : Policy) (c : Code) → IsWritten lits p → policy_code s env p ≡ Some c → IsPlain Named c.ok × IsPlain Named c.val
  code_plain p c h e =
      let t = typed_as s env p c e in
      let uids = acting-uids Named env.action acting_named (condition p) (condition-uids Named p (all_weaker (Contains lits) Named (λ u has. inl has) (policy_uids p) h.uids)) in
      let k = terms_of s env (IsOf s env (nowhere env) Named acting_named) AnyValue Named (plain_kept s env (nowhere env) Named acting_named) setting.lawful literal
      (derivation_of derived s env (asked env p) [] t.typed t.given) uids (all_always AnyValue (λ x. tt) (constants (asked env p))) in
      subst (λ (d : Code). IsPlain Named d.ok × IsPlain Named d.val) t.code (k.ok.1, k.val.1)

  one_plain : (p : Policy) (c : Compiled) → IsWritten lits p → compiled s env p ≡ Some c → ArePlainOf Named c
  one_plain p c h e = let k = compiled_of p.effect (policy_code s env p) c e in subst (ArePlainOf Named) (sym k.whole) (code_plain p k.code h k.is)

  all_are_plain : (ps : List Policy) (cs : List Compiled) → AllByRecursion (IsWritten lits) ps → all_compiled s env ps ≡ Some cs → All (ArePlainOf Named) cs
  all_are_plain [] cs h e = subst (All (ArePlainOf Named)) (sym (no_parts cs e)) (All-nil (ArePlainOf Named))
  all_are_plain (p ∷ ps) cs h e =
      let k = parts_of (compiled s env p) (all_compiled s env ps) cs e in
      subst (All (ArePlainOf Named)) (sym k.whole) (All-cons (ArePlainOf Named) k.first k.rest (one_plain p k.first h.0 k.first_is) (all_are_plain ps k.rest h.1 k.rest_is))

  goal_plain : (q : Question) (a b : List Policy) (t : Tree) → AllByRecursion (IsWritten lits) a → AllByRecursion (IsWritten lits) b → goal_term s env q a b ≡ Some t → IsPlain Named t
  goal_plain q a b t h k e =
      let g = goal_parts q (all_compiled s env a) (all_compiled s env b) t e in
      subst (IsPlain Named) (sym g.whole) (goal_of_plain Named q g.first g.second (all_are_plain a g.first h g.first_is) (all_are_plain b g.second k g.second_is))

-- ---- the law

-- goals are terms
abbrev GoalsAreTerms : Type 0
GoalsAreTerms = (s : Declarations) (env : Env) (lits : List Uid) (q : Question) (a b : List Policy) (t : Tree)
    → IsSetting s env lits → AllByRecursion (IsWritten lits) a → AllByRecursion (IsWritten lits) b → goal_term s env q a b ≡ Some t → IsTermOf s env lits sort.Bool t

pub goal_is_posed : LiteralLaw → Derived → GoalsAreTerms → (s : Declarations) (env : Env) (lits : List Uid) (q : Question) (a b : List Policy) (t : Tree)
    → IsSetting s env lits → AllByRecursion (IsWritten lits) a → AllByRecursion (IsWritten lits) b → goal_term s env q a b ≡ Some t → IsGoal s env lits t
goal_is_posed literal derived terms s env lits q a b t setting h k e =
    let plain = goal_plain literal derived s env lits setting q a b t h k e in
    record {
      environment = setting.environment;
      term = terms s env lits q a b t setting h k e;
      plain = no_pick (IsNamed s lits) t plain;
      written = λ u has. all_element (IsNamed s lits) (uids_of t) u (uids_named (IsNamed s lits) t plain) has;
      declared = all_of_elements (IsDeclared s) lits (λ u has. declared_of s u (setting.declared u has));
    }
