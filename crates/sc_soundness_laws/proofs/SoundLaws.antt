-- Typed expressions, in well-formed worlds of their environment, have values of their types or overflow.
use Rattle.std.proofs.Common.{◌≡◌, ℕ, List, [], ◌∷◌, ◌++◌, map, flat_map, Bool, true, Result, Ok, Err, IfOk, Contains, IsTrue, IsSomeAnd, Option, Some, None, unwrap_or, refl, sym, ap, subst, ◌∙◌}
use Rattle.std.specs.List.{AllByRecursion}
use Rattle.sc_lists.specs.declared.fault.Fault.{Fault}
use Rattle.sc_lists.specs.declared.fault.Fault.TheVariants.{Told, NoMemory}
use Rattle.sc_lists.specs.Told.{Gives}
use Rattle.sc_lists.proofs.ListLaws.{all_weaker}
use Rattle.sc_ast.specs.declared.expr.Expr.{Expr, Expr-F, roll-Expr, map-Expr, ind-Expr}
use Rattle.sc_ast.specs.declared.expr.Expr.TheOpen as e
use Rattle.sc_ast.specs.declared.expr.Expr.TheVariants as expr
use Rattle.sc_ast.specs.declared.expr.Expr.TheVariants.{rolls-If, rolls-Or, rolls-And, rolls-Binary, rolls-Has, rolls-Like, rolls-Is, rolls-IsIn, rolls-Unary, rolls-Access, rolls-Literal, rolls-Variable, rolls-Set, rolls-Record}
use Rattle.sc_ast.specs.declared.expr.Variable.{Variable}
use Rattle.sc_ast.specs.declared.expr.Variable.TheVariants.{Principal, Action, Resource, Context}
use Rattle.sc_ast.specs.declared.literal.Literal.{Literal}
use Rattle.sc_ast.specs.declared.literal.Literal.TheVariants as literal
use Rattle.sc_ast.specs.declared.place.Place.{Place}
use Rattle.sc_ast.specs.declared.policy.Policy.{Policy}
use Rattle.sc_ast.specs.Conditions.{condition}
use Rattle.sc_ast.specs.Literals.{literal_uids, uids_step, expr_uids, policy_uids}
use Rattle.sc_names.specs.declared.uid.Uid.{Uid}
use Rattle.sc_schema.specs.declared.declarations.Env.{Env}
use Rattle.sc_schema.specs.declared.ty.Ty.{Ty}
use Rattle.sc_schema.specs.declared.ty.Ty.TheVariants as types
use Rattle.sc_schema.specs.Declarations.{Declarations, choices_of, kind_of, context_of}
use Rattle.sc_schema.specs.Lawful.{IsLawful}
use Rattle.sc_values.specs.declared.value.Value.{Value}
use Rattle.sc_values.specs.declared.value.Value.TheVariants as value
use Rattle.sc_values.specs.Records.{Fields}
use Rattle.sc_world.specs.declared.world.World.{World}
use Rattle.sc_world.specs.Choices.{is_choice, IsChoice}
use Rattle.sc_world.specs.Conforms.{conforms}
use Rattle.sc_world.specs.WellFormed.{Entry, HasChoices, IsStored, IsWellFormed}
use Rattle.sc_world.proofs.FillLaws.{of_key}
use Rattle.sc_eval.specs.declared.error.EvalError.{EvalError}
use Rattle.sc_eval.specs.Outcomes.{Outcome, ◌>>=◌}
use Rattle.sc_eval.specs.Collections.{set_value, record_value}
use Rattle.sc_eval.specs.Operators.{literal_value, variable_value}
use Rattle.sc_eval.specs.Eval.{all_values, all_fields, eval}
use Rattle.sc_eval.specs.ConstructLaws as evaluated
use Rattle.sc_typed.specs.declared.outcome.Typed.{Typed}
use Rattle.sc_typed.specs.declared.typed_expr.TypedExpr.{TypedExpr}
use Rattle.sc_typed.specs.declared.typed_expr.TypedExpr.TheVariants as typed
use Rattle.sc_typed.specs.Types.{is_boolean}
use Rattle.sc_typed.specs.Capabilities.{Capabilities}
use Rattle.sc_typed.specs.Outcomes.{gives, ty}
use Rattle.sc_typed.specs.Outcomes as outcome
use Rattle.sc_typing.specs.Policies.{acting, asked, typed_policy}
use Rattle.sc_typing_rules.specs.Rules.{Operand, choice, either, both, operated, having, matching, tested, tested_in, applied, accessed, literal_type, literal_typed, variable_type, all_typed, member_type, set_literal, fields_typed, record_type, record_literal}
use Rattle.sc_typing.specs.Typing.{typing, part}
use Rattle.sc_typed.proofs.OutcomeLaws.{through, checked, weaker}
use Rattle.sc_typed.proofs.TypeOfLaws.{type_of_Literal, type_of_Variable, type_of_Set, type_of_Record}
use Rattle.sc_typing.proofs.TypingLaws as construct
use Rattle.sc_soundness_laws.specs.Sound.{IsOf, OrOverflows, AnswersOrOverflows, AllHold, IsSound, SoundAs, Sounds}
use Rattle.sc_soundness_laws.proofs.ValueLaws.{truth_fits, boolean, of_Bool, of_Long, of_String, of_Entity, follows}
use Rattle.sc_soundness_laws.proofs.ListLaws.{split, each_weaker, contained}
use Rattle.sc_soundness_laws.proofs.ActingLaws.{uids_of, acting-eval, acting-uids}
use Rattle.sc_soundness_laws.proofs.ConditionLaws.{condition-uids}
use Rattle.sc_soundness_laws.proofs.CollectionLaws.{AreOf, AreFieldsOf, member_type_sound, record_of}
use Rattle.sc_soundness_laws.proofs.CollectionLaws as collection
use Rattle.sc_soundness_laws.proofs.LogicLaws.{gives_as, choice_sound, either_sound, both_sound}
use Rattle.sc_soundness_laws.proofs.ConstructLaws.{matching_sound, tested_sound, applied_sound, operated_sound, tested_in_sound, accessed_sound, having_sound}

module _ (s : Declarations) (env : Env) (literals : List Uid) (w : World) (lawful : IsLawful s) (well : IsWellFormed s env literals w) where
  abbrev AreStored : List Uid → Type 0
  AreStored us = AllByRecursion (IsStored w.store) us

  -- ---- literals and variables

  -- an entity that is stored is a choice, where its type is enumerated
  choice_of : (name : List ℕ) (u : Uid) → u.type_name ≡ name → IsStored w.store u → IsTrue (is_choice (choices_of s name) u.id)
  choice_of name u named stored =
      subst (λ (n : List ℕ). IsTrue (is_choice (choices_of s n) u.id)) named
      (of_key (IsChoice s) u w.store (all_weaker (HasChoices s) (λ (x : Entry). IsChoice s x.0) (λ x h. h.uid) w.store well.choices) stored)

  entity_of_kind : (name : List ℕ) (u : Uid) → u.type_name ≡ name → IsStored w.store u → IsOf w (types.Entity (kind_of s name)) (value.Entity u)
  entity_of_kind name u named stored = of_Entity w (kind_of s name) u named (choice_of name u named stored) stored

  literal_of : (l : Literal) → AreStored (literal_uids l) → IsOf w (literal_type s l) (literal_value l)
  literal_of (literal.Bool b) h = of_Bool w _ b (truth_fits b)
  literal_of (literal.Long n) h = of_Long w n
  literal_of (literal.String text) h = of_String w text
  literal_of (literal.Entity u) h = entity_of_kind u.type_name u refl h.0

  context_of_type : (o : Option Ty) (x : Value) → IsSomeAnd o (λ type. IsOf w type x) → IsOf w (unwrap_or o (types.Record [])) x
  context_of_type (Some type) x h = h
  context_of_type None x h = absurd h

  context_is : (o : Option Ty) → IsSomeAnd o (λ type. IsTrue (conforms type (value.Record w.request.context))) → IsSomeAnd o (λ type. IsOf w type (value.Record w.request.context))
  context_is (Some type) h = record { conforming = h; stored = well.closed.context }
  context_is None h = absurd h

  variable_of : (x : Variable) → IsOf w (variable_type s env x) (variable_value x w.request)
  variable_of Principal = entity_of_kind env.principal w.request.principal well.request.principal well.closed.principal
  variable_of Action = entity_of_kind env.action.type_name w.request.action (ap (λ (u : Uid). u.type_name) well.request.action) well.closed.action
  variable_of Resource = entity_of_kind env.resource w.request.resource well.request.resource well.closed.resource
  variable_of Context = context_of_type (context_of s env.action) (value.Record w.request.context) (context_is (context_of s env.action) well.request.context)

  -- ---- sets and records

  abbrev IsSafe : Expr → Type 0
  IsSafe x = AreStored (expr_uids x) → Sounds w (part s env x)

  abbrev Known : Type 0
  Known = (x : Expr) × IsSafe x

  abbrev exprs : List Known → List Expr
  exprs ks = map (λ (k : Known). k.0) ks

  abbrev operands : List Known → List Operand
  operands ks = map (part s env) (exprs ks)

  abbrev values : List Known → Result (List Value) EvalError
  values ks = all_values (map eval (exprs ks)) w

  abbrev all_uids : List Known → List Uid
  all_uids ks = flat_map (λ (us : List Uid). us) (map expr_uids (exprs ks))

  abbrev MembersSound : Capabilities → List Known → List TypedExpr → Type 0
  MembersSound known ks xs = AllHold w known → OrOverflows (AreOf w xs) (values ks)

  members_sound : (ks : List Known) → AreStored (all_uids ks) → (known : Capabilities) → IfOk (all_typed (operands ks) known) (MembersSound known ks)
  members_sound [] stored known = λ held. tt
  members_sound (k ∷ ks) stored known =
      let p = split (IsStored w.store) (expr_uids k.0) (all_uids ks) stored in
      through (SoundAs w known (eval k.0 w)) (typing s env k.0 known) _ (MembersSound known (k ∷ ks)) (k.1 p.0 known) λ x h.
      through (MembersSound known ks) (all_typed (operands ks) known) _ (MembersSound known (k ∷ ks)) (members_sound ks p.1 known) λ xs g held.
      follows (IsOf w (ty x.expr)) (AreOf w (x.expr ∷ xs)) (eval k.0 w) _ (h held).outcome λ v hv.
      follows (AreOf w xs) (AreOf w (x.expr ∷ xs)) (values ks) _ (g held) λ vs hvs. (hv, hvs)

  set_sound : (place : Place) (ks : List Known) → AreStored (all_uids ks) → (known : Capabilities) → IfOk (set_literal place (operands ks) known) (SoundAs w known (values ks >>= λ vs. Ok (set_value vs)))
  set_sound place ks stored known =
      let Q : Typed → Type 0 = SoundAs w known (values ks >>= λ vs. Ok (set_value vs)) in
      through (MembersSound known ks) (all_typed (operands ks) known) _ Q (members_sound ks stored known) λ xs g.
      through (λ type. (vs : List Value) → AreOf w xs vs → AllByRecursion (IsOf w type) vs) (member_type place xs) _ Q (member_type_sound w place xs) λ type f held.
      gives_as w (typed.Set place (types.Set type) xs) (types.Set type) [] (values ks >>= λ vs. Ok (set_value vs)) (type_of_Set place (types.Set type) xs)
      (follows (AreOf w xs) (IsOf w (types.Set type)) (values ks) _ (g held) λ vs h. collection.set_of w type vs (f vs h)) (λ k. tt)

  abbrev field_exprs : List (List ℕ × Known) → List (List ℕ × Expr)
  field_exprs ks = map (λ (f : List ℕ × Known). (f.0, f.1.0)) ks

  abbrev field_operands : List (List ℕ × Known) → List (List ℕ × Operand)
  field_operands ks = map (λ (f : List ℕ × Expr). (f.0, part s env f.1)) (field_exprs ks)

  abbrev field_values : List (List ℕ × Known) → Result Fields EvalError
  field_values ks = all_fields (map (λ (f : List ℕ × Expr). (f.0, eval f.1)) (field_exprs ks)) w

  abbrev field_uids : List (List ℕ × Known) → List Uid
  field_uids ks = flat_map (λ (f : List ℕ × List Uid). f.1) (map (λ (f : List ℕ × Expr). (f.0, expr_uids f.1)) (field_exprs ks))

  abbrev FieldsSound : Capabilities → List (List ℕ × Known) → List (List ℕ × TypedExpr) → Type 0
  FieldsSound known ks xs = AllHold w known → OrOverflows (AreFieldsOf w xs) (field_values ks)

  fields_sound : (ks : List (List ℕ × Known)) → AreStored (field_uids ks) → (known : Capabilities) → IfOk (fields_typed (field_operands ks) known) (FieldsSound known ks)
  fields_sound [] stored known = λ held. tt
  fields_sound (k ∷ ks) stored known =
      let p = split (IsStored w.store) (expr_uids k.1.0) (field_uids ks) stored in
      through (SoundAs w known (eval k.1.0 w)) (typing s env k.1.0 known) _ (FieldsSound known (k ∷ ks)) (k.1.1 p.0 known) λ x h.
      through (FieldsSound known ks) (fields_typed (field_operands ks) known) _ (FieldsSound known (k ∷ ks)) (fields_sound ks p.1 known) λ xs g held.
      follows (IsOf w (ty x.expr)) (AreFieldsOf w ((k.0, x.expr) ∷ xs)) (eval k.1.0 w) _ (h held).outcome λ v hv.
      follows (AreFieldsOf w xs) (AreFieldsOf w ((k.0, x.expr) ∷ xs)) (field_values ks) _ (g held) λ vs hvs. (refl, hv, hvs)

  record_sound : (place : Place) (ks : List (List ℕ × Known)) → AreStored (field_uids ks) → (known : Capabilities) → IfOk (record_literal place (field_operands ks) known) (SoundAs w known (field_values ks >>= λ vs. Ok (record_value vs)))
  record_sound place ks stored known =
      let Q : Typed → Type 0 = SoundAs w known (field_values ks >>= λ vs. Ok (record_value vs)) in
      through (FieldsSound known ks) (fields_typed (field_operands ks) known) _ Q (fields_sound ks stored known) λ xs g held.
      gives_as w (typed.Record place (record_type xs) xs) (record_type xs) [] (field_values ks >>= λ vs. Ok (record_value vs)) (type_of_Record place (record_type xs) xs)
      (follows (AreFieldsOf w xs) (IsOf w (record_type xs)) (field_values ks) _ (g held) λ vs h. record_of w xs vs h) (λ k. tt)

  literal_sound : (place : Place) (l : Literal) → AreStored (literal_uids l) → (known : Capabilities) → IfOk (gives (literal_typed s place l) []) (SoundAs w known (Ok (literal_value l)))
  literal_sound place l stored known held = gives_as w (literal_typed s place l) (literal_type s l) [] (Ok (literal_value l)) (type_of_Literal place (literal_type s l) l) (literal_of l stored) (λ k. tt)

  variable_sound : (place : Place) (x : Variable) (known : Capabilities) → IfOk (gives (typed.Variable place (variable_type s env x) x) []) (SoundAs w known (Ok (variable_value x w.request)))
  variable_sound place x known held =
      gives_as w (typed.Variable place (variable_type s env x) x) (variable_type s env x) [] (Ok (variable_value x w.request)) (type_of_Variable place (variable_type s env x) x) (variable_of x) (λ k. tt)

  -- ---- all expressions

  abbrev forget : Expr-F Known → Expr-F Expr
  forget = map-Expr Known Expr (λ k. k.0)

  abbrev SafeIf : Expr → Type 0
  SafeIf x = Sounds w (part s env x)

  -- what a construct gives, and what it is worth
  by_construct : (x z : Expr) (f : Capabilities → outcome.Outcome) (o : Outcome) → z ≡ x → ((known : Capabilities) → typing s env x known ≡ f known) → eval x w ≡ o → ((known : Capabilities) → IfOk (f known) (SoundAs w known o)) → SafeIf z
  by_construct x z f o at same worth h = subst SafeIf (sym at) (λ known. subst (λ r. IfOk r (SoundAs w known (eval x w))) (sym (same known)) (subst (λ v. IfOk (f known) (SoundAs w known v)) (sym worth) (h known)))

  abbrev P : Known → Operand
  P k = part s env k.0

  two : (a b : Known) → AreStored (expr_uids a.0 ++ expr_uids b.0) → AreStored (expr_uids a.0) × AreStored (expr_uids b.0)
  two a b h = split (IsStored w.store) (expr_uids a.0) (expr_uids b.0) h

  rows : (y : Expr-F Known) → AreStored (uids_step (map-Expr Expr (List Uid) expr_uids (forget y))) → SafeIf (roll-Expr (forget y))
  rows (e.If place c a b) h =
      let p = split (IsStored w.store) (expr_uids c.0) (expr_uids a.0 ++ expr_uids b.0) h in
      let q = two a b p.1 in
      by_construct (expr.If place c.0 a.0 b.0) _ (choice place (P c) (P a) (P b)) _ (rolls-If place c.0 a.0 b.0) (construct.typing_If s env place c.0 a.0 b.0) (evaluated.eval_If place c.0 a.0 b.0 w)
      (choice_sound w place (P c) (P a) (P b) (c.1 p.0) (a.1 q.0) (b.1 q.1))
  rows (e.Or place a b) h =
      let p = two a b h in
      by_construct (expr.Or place a.0 b.0) _ (either place (P a) (P b)) _ (rolls-Or place a.0 b.0) (construct.typing_Or s env place a.0 b.0) (evaluated.eval_Or place a.0 b.0 w) (either_sound w place (P a) (P b) (a.1 p.0) (b.1 p.1))
  rows (e.And place a b) h =
      let p = two a b h in
      by_construct (expr.And place a.0 b.0) _ (both place (P a) (P b)) _ (rolls-And place a.0 b.0) (construct.typing_And s env place a.0 b.0) (evaluated.eval_And place a.0 b.0 w) (both_sound w place (P a) (P b) (a.1 p.0) (b.1 p.1))
  rows (e.Binary place operator a b) h =
      let p = two a b h in
      by_construct (expr.Binary place operator a.0 b.0) _ (operated s place operator (P a) (P b)) _ (rolls-Binary place operator a.0 b.0) (construct.typing_Binary s env place operator a.0 b.0) (evaluated.eval_Binary place operator a.0 b.0 w)
      (operated_sound w s env literals lawful well place operator (P a) (P b) (a.1 p.0) (b.1 p.1))
  rows (e.Has place a names) h =
      by_construct (expr.Has place a.0 names) _ (having s place names (P a)) _ (rolls-Has place a.0 names) (construct.typing_Has s env place a.0 names) (evaluated.eval_Has place a.0 names w) (having_sound w s env literals lawful well place names (P a) (a.1 h))
  rows (e.Like place a pattern) h =
      by_construct (expr.Like place a.0 pattern) _ (matching place pattern (P a)) _ (rolls-Like place a.0 pattern) (construct.typing_Like s env place a.0 pattern) (evaluated.eval_Like place a.0 pattern w) (matching_sound w place pattern (P a) (a.1 h))
  rows (e.Is place a n) h =
      by_construct (expr.Is place a.0 n) _ (tested place n (P a)) _ (rolls-Is place a.0 n) (construct.typing_Is s env place a.0 n) (evaluated.eval_Is place a.0 n w) (tested_sound w place n (P a) (a.1 h))
  rows (e.IsIn place a n in_place b) h =
      let p = two a b h in
      by_construct (expr.IsIn place a.0 n in_place b.0) _ (tested_in s place n in_place (P a) (P b)) _ (rolls-IsIn place a.0 n in_place b.0) (construct.typing_IsIn s env place a.0 n in_place b.0) (evaluated.eval_IsIn place a.0 n in_place b.0 w)
      (tested_in_sound w s env literals lawful well place n in_place (P a) (P b) (a.1 p.0) (b.1 p.1))
  rows (e.Unary place operator a) h =
      by_construct (expr.Unary place operator a.0) _ (applied place operator (P a)) _ (rolls-Unary place operator a.0) (construct.typing_Unary s env place operator a.0) (evaluated.eval_Unary place operator a.0 w) (applied_sound w place operator (P a) (a.1 h))
  rows (e.Access place a name) h =
      by_construct (expr.Access place a.0 name) _ (accessed s place name (P a)) _ (rolls-Access place a.0 name) (construct.typing_Access s env place a.0 name) (evaluated.eval_Access place a.0 name w) (accessed_sound w s env literals lawful well place name (P a) (a.1 h))
  rows (e.Literal place l) h =
      by_construct (expr.Literal place l) _ (λ known. gives (literal_typed s place l) []) _ (rolls-Literal place l) (construct.typing_Literal s env place l) (evaluated.eval_Literal place l w) (literal_sound place l h)
  rows (e.Variable place x) h =
      by_construct (expr.Variable place x) _ (λ known. gives (typed.Variable place (variable_type s env x) x) []) _ (rolls-Variable place x) (construct.typing_Variable s env place x) (evaluated.eval_Variable place x w) (variable_sound place x)
  rows (e.Set place ks) h =
      by_construct (expr.Set place (exprs ks)) _ (set_literal place (operands ks)) _ (rolls-Set place (exprs ks)) (construct.typing_Set s env place (exprs ks)) (evaluated.eval_Set place (exprs ks) w) (set_sound place ks h)
  rows (e.Record place ks) h =
      by_construct (expr.Record place (field_exprs ks)) _ (record_literal place (field_operands ks)) _ (rolls-Record place (field_exprs ks)) (construct.typing_Record s env place (field_exprs ks)) (evaluated.eval_Record place (field_exprs ks) w) (record_sound place ks h)

  inner : (y : Expr-F Known) → IsSafe (roll-Expr (forget y))
  inner y stored = rows y (subst AreStored (uids_of (roll-Expr (forget y)) (forget y) refl) stored)

  sound : (x : Expr) → IsSafe x
  sound = ind-Expr IsSafe (λ x y at. subst (λ z. IsSafe (roll-Expr z)) at (inner y))

  written_stored : (us : List Uid) → AllByRecursion (Contains literals) us → AreStored us
  written_stored us h = each_weaker (Contains literals) (IsStored w.store) (λ u has. contained (IsStored w.store) literals u well.closed.written has) us h

  -- ---- policies

  acting_is : (x : Expr) → eval (acting env.action x) w ≡ eval x w
  acting_is x = ap (λ (u : Uid). eval (acting u x) w) (sym well.request.action) ∙ acting-eval w x

  action_stored : IsStored w.store env.action
  action_stored = subst (IsStored w.store) well.request.action well.closed.action

  asked_stored : (p : Policy) → AllByRecursion (Contains literals) (policy_uids p) → AreStored (expr_uids (asked env p))
  asked_stored p h = acting-uids (IsStored w.store) env.action action_stored (condition p) (condition-uids (IsStored w.store) p (written_stored (policy_uids p) h))

  policy_sound : (p : Policy) → AllByRecursion (Contains literals) (policy_uids p) → IfOk (typed_policy s env p) (λ (x : TypedExpr). OrOverflows (IsOf w (ty x)) (eval (condition p) w))
  policy_sound p h =
      let Q : TypedExpr → Type 0 = λ x. OrOverflows (IsOf w (ty x)) (eval (condition p) w) in
      through (SoundAs w [] (eval (asked env p) w)) (typing s env (asked env p) []) _ Q (sound (asked env p) (asked_stored p h) []) λ x g.
      checked (is_boolean (ty x.expr)) _ _ _ Q λ c. subst (OrOverflows (IsOf w (ty x.expr))) (acting_is (condition p)) (g tt).outcome

  -- a value of a Boolean type is a truth value
  abbrev IsTruth : Value → Type 0
  IsTruth x = (b : Bool) × (x ≡ value.Bool b)

  truth_of : (type : Ty) (o : Outcome) → is_boolean type ≡ true → OrOverflows (IsOf w type) o → OrOverflows IsTruth o
  truth_of type (Ok x) k h = boolean type x k h.conforming
  truth_of type (Err e) k h = h

  policy_truth : (p : Policy) → AllByRecursion (Contains literals) (policy_uids p) → IfOk (typed_policy s env p) (λ (x : TypedExpr). OrOverflows IsTruth (eval (condition p) w))
  policy_truth p h =
      let Q : TypedExpr → Type 0 = λ x. OrOverflows IsTruth (eval (condition p) w) in
      through (SoundAs w [] (eval (asked env p) w)) (typing s env (asked env p) []) _ Q (sound (asked env p) (asked_stored p h) []) λ x g.
      checked (is_boolean (ty x.expr)) _ _ _ Q λ c. subst (OrOverflows IsTruth) (acting_is (condition p)) (truth_of (ty x.expr) (eval (asked env p) w) c (g tt).outcome)

  expression_sound : (x : Expr) (known : Capabilities) → AllByRecursion (Contains literals) (expr_uids x) → AllHold w known → IfOk (typing s env x known) (λ (t : Typed). IsSound w (eval x w) t)
  expression_sound x known h held = under (typing s env x known) (sound x (written_stored (expr_uids x) h) known)
    where
      under : (r : outcome.Outcome) → IfOk r (SoundAs w known (eval x w)) → IfOk r (λ (t : Typed). IsSound w (eval x w) t)
      under (Ok t) k = k held
      under (Err fault) k = tt

-- ---- what calls answer

answers : (P : Value → Type 0) (answer : Result Value (Fault EvalError)) (o : Outcome) → Gives answer o → OrOverflows P o → AnswersOrOverflows P answer
answers P (Ok x) o h k = subst (OrOverflows P) h k
answers P (Err (Told e)) o h k = subst (OrOverflows P) h k
answers P (Err NoMemory) o h k = tt

-- ---- the laws

pub policy_is_sound : (s : Declarations) (env : Env) (literals : List Uid) (w : World) (p : Policy) → IsLawful s → IsWellFormed s env literals w → AllByRecursion (Contains literals) (policy_uids p)
    → IfOk (typed_policy s env p) (λ (x : TypedExpr). OrOverflows (IsOf w (ty x)) (eval (condition p) w))
policy_is_sound s env literals w p lawful well h = policy_sound s env literals w lawful well p h

pub expression_is_sound : (s : Declarations) (env : Env) (literals : List Uid) (w : World) (x : Expr) (known : Capabilities) → IsLawful s → IsWellFormed s env literals w → AllByRecursion (Contains literals) (expr_uids x) → AllHold w known
    → IfOk (typing s env x known) (λ (t : Typed). IsSound w (eval x w) t)
expression_is_sound s env literals w x known lawful well h held = expression_sound s env literals w lawful well x known h held

pub policy_is_true_or_false : (s : Declarations) (env : Env) (literals : List Uid) (w : World) (p : Policy) → IsLawful s → IsWellFormed s env literals w → AllByRecursion (Contains literals) (policy_uids p)
    → IfOk (typed_policy s env p) (λ (x : TypedExpr). OrOverflows (λ (y : Value). (b : Bool) × (y ≡ value.Bool b)) (eval (condition p) w))
policy_is_true_or_false s env literals w p lawful well h = policy_truth s env literals w lawful well p h

pub policy_answers : (s : Declarations) (env : Env) (literals : List Uid) (w : World) (p : Policy) (answer : Result Value (Fault EvalError)) → IsLawful s → IsWellFormed s env literals w → AllByRecursion (Contains literals) (policy_uids p)
    → Gives answer (eval (condition p) w) → IfOk (typed_policy s env p) (λ (x : TypedExpr). AnswersOrOverflows (IsOf w (ty x)) answer)
policy_answers s env literals w p answer lawful well h given =
    weaker (λ (x : TypedExpr). OrOverflows (IsOf w (ty x)) (eval (condition p) w)) (λ (x : TypedExpr). AnswersOrOverflows (IsOf w (ty x)) answer) (typed_policy s env p)
    (λ x k. answers (IsOf w (ty x)) answer (eval (condition p) w) given k) (policy_is_sound s env literals w p lawful well h)
