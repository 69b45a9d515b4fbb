-- The law of the compiler for the conditions of policies, in which `action` is the environment's action.
use Rattle.std.proofs.Common.{◌≡◌, List, [], ◌∷◌, true, Option, Some, None, Result, Ok, Err, IfOk, Contains, refl, ap, sym, subst, ◌∙◌}
use Rattle.std.specs.List.{AllByRecursion}
use Rattle.sc_lists.proofs.ListLaws.{contains_first, contains_rest}
use Rattle.sc_ast.specs.declared.expr.Expr.{Expr}
use Rattle.sc_ast.specs.declared.policy.Policy.{Policy}
use Rattle.sc_ast.specs.Conditions.{condition}
use Rattle.sc_ast.specs.Literals.{expr_uids, policy_uids}
use Rattle.sc_names.specs.declared.uid.Uid.{Uid}
use Rattle.sc_schema.specs.declared.declarations.Env.{Env}
use Rattle.sc_schema.specs.Declarations.{Declarations}
use Rattle.sc_schema.specs.Lawful.{IsLawful}
use Rattle.sc_world.specs.declared.world.World.{World}
use Rattle.sc_world.specs.WellFormed.{IsStored, IsWellFormed}
use Rattle.sc_eval.specs.Eval.{eval}
use Rattle.sc_typed.specs.declared.fault.TypeFault.{TypeFault}
use Rattle.sc_typed.specs.declared.outcome.Typed.{Typed}
use Rattle.sc_typed.specs.declared.typed_expr.TypedExpr.{TypedExpr}
use Rattle.sc_typed.specs.Capabilities.{Capabilities}
use Rattle.sc_typed.specs.Outcomes.{ty}
use Rattle.sc_typed.specs.Types.{is_boolean}
use Rattle.sc_typed.proofs.OutcomeLaws.{through, checked}
use Rattle.sc_typing.specs.Policies.{acting, asked, typed_policy}
use Rattle.sc_typing.specs.Typing.{typing}
use Rattle.sc_soundness_laws.specs.Sound.{AllHold}
use Rattle.sc_soundness_laws.proofs.ListLaws.{each_weaker}
use Rattle.sc_soundness_laws.proofs.ActingLaws.{acting-eval, acting-uids}
use Rattle.sc_soundness_laws.proofs.ConditionLaws.{condition-uids}
use Rattle.sc_constructs.specs.Code.{Code}
use Rattle.sc_symeval.specs.Agreement.{Agrees}
use Rattle.sc_symeval.specs.Codes.{code_of}
use Rattle.sc_symeval.specs.Compiling.{code_typed, policy_code}
use Rattle.sc_typing_laws.proofs.DerivationLaws.{told}

-- ---- a policy that is compiled is typed

-- what typing gives of its condition
pub record IsTypedAs (s : Declarations) (env : Env) (p : Policy) (c : Code) : Type 0 where
  pub typed : Typed
  pub given : typing s env (asked env p) [] ≡ Ok typed
  pub boolean : is_boolean (ty typed.expr) ≡ true
  pub code : code_of s env typed.expr ≡ c

abbrev only : Option Code → Code → Code
only None d = d
only (Some c) d = c

module _ (s : Declarations) (env : Env) (p : Policy) where
  abbrev Given : TypedExpr → Type 0
  Given x = (t : Typed) × (typing s env (asked env p) [] ≡ Ok t) × (is_boolean (ty t.expr) ≡ true) × (t.expr ≡ x)

  policy_given : IfOk (typed_policy s env p) Given
  policy_given =
      through (λ t. typing s env (asked env p) [] ≡ Ok t) (typing s env (asked env p) []) _ Given (told (typing s env (asked env p) [])) λ t e.
      checked (is_boolean (ty t.expr)) _ _ _ Given λ b. (t, e, b, refl)

  pub typed_as : (c : Code) → policy_code s env p ≡ Some c → IsTypedAs s env p c
  typed_as c e = by (typed_policy s env p) policy_given e
    where
      by : (r : Result TypedExpr TypeFault) → IfOk r Given → code_typed s env r ≡ Some c → IsTypedAs s env p c
      by (Ok x) g f = record { typed = g.0; given = g.1; boolean = g.2; code = ap (code_of s env) g.3 ∙ ap (λ (o : Option Code). only o c) f }
      by (Err fault) g f = absurd (let clash : None ≡ Some c = f in cc)

-- ---- the law

-- what is known of expressions
abbrev pub ExprsAgree : Type 0
ExprsAgree = (s : Declarations) (env : Env) (literals : List Uid) (w : World) (x : Expr) (known : Capabilities) (t : Typed)
    → IsLawful s → IsWellFormed s env literals w → AllByRecursion (Contains literals) (expr_uids x) → AllHold w known → typing s env x known ≡ Ok t → Agrees w (code_of s env t.expr) (eval x w)

module _ (agree : ExprsAgree) (s : Declarations) (env : Env) (literals : List Uid) (w : World) (lawful : IsLawful s) (well : IsWellFormed s env literals w) where
  -- the environment's action is stored too
  action_stored : IsStored w.store env.action
  action_stored = subst (IsStored w.store) well.request.action well.closed.action

  with_action : IsWellFormed s env (env.action ∷ literals) w
  with_action = record {
    proper = well.proper;
    request = well.request;
    attributes = well.attributes;
    tags = well.tags;
    ancestor_types = well.ancestor_types;
    transitive = well.transitive;
    acyclic = well.acyclic;
    actions = well.actions;
    choices = well.choices;
    declared_actions = well.declared_actions;
    closed = record {
      principal = well.closed.principal;
      action = well.closed.action;
      resource = well.closed.resource;
      context = well.closed.context;
      entries = well.closed.entries;
      written = (action_stored, well.closed.written);
    };
  }

  pub policy_agrees : (p : Policy) (c : Code) → AllByRecursion (Contains literals) (policy_uids p) → policy_code s env p ≡ Some c → Agrees w c (eval (condition p) w)
  policy_agrees p c uids e =
      let t = typed_as s env p c e in
      let within = each_weaker (Contains literals) (Contains (env.action ∷ literals)) (λ u has. contains_rest env.action literals u has) (policy_uids p) uids in
      let all = acting-uids (Contains (env.action ∷ literals)) env.action (contains_first env.action literals) (condition p) (condition-uids (Contains (env.action ∷ literals)) p within) in
      subst (λ (d : Code). Agrees w d (eval (condition p) w)) t.code
      (subst (Agrees w (code_of s env t.typed.expr)) (ap (λ (u : Uid). eval (acting u (condition p)) w) (sym well.request.action) ∙ acting-eval w (condition p))
      (agree s env (env.action ∷ literals) w (asked env p) [] t.typed lawful with_action all tt t.given))
