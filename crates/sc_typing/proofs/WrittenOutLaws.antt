-- `a is T in b` is typed as `a is T && a in b`.
use Rattle.std.proofs.Common.{◌≡◌, [], ◌++◌, Bool, true, false, if◌then◌else◌, Option, Some, None, unwrap_or, Result, Ok, Err, IfOk, sym, ap, subst, ◌∙◌}
use Rattle.std.proofs.lemmas.List.{append-nil}
use Rattle.sc_ast.specs.declared.expr.Expr.{Expr}
use Rattle.sc_ast.specs.declared.expr.Expr.TheVariants as expr
use Rattle.sc_ast.specs.declared.expr.TypeName.{TypeName}
use Rattle.sc_ast.specs.declared.operator.BinaryOperator.TheVariants.{In}
use Rattle.sc_ast.specs.declared.place.Place.{Place}
use Rattle.sc_schema.specs.declared.declarations.Env.{Env}
use Rattle.sc_schema.specs.declared.ty.Ty.{Ty, Ty-F, out-Ty, roll-Ty, out-roll-Ty}
use Rattle.sc_schema.specs.declared.ty.Ty.TheOpen as open_ty
use Rattle.sc_schema.specs.declared.ty.Ty.TheVariants as ty
use Rattle.sc_schema.specs.declared.ty.Ty.TheVariants.{rolls-True, rolls-False, rolls-Bool}
use Rattle.sc_schema.specs.Declarations.{Declarations}
use Rattle.sc_typed.specs.declared.fault.TypeFault.{TypeFault}
use Rattle.sc_typed.specs.declared.fault.TypeRule.TheVariants.{NotBoolean}
use Rattle.sc_typed.specs.declared.outcome.Typed.{Typed}
use Rattle.sc_typed.specs.declared.typed_expr.TypedExpr.{TypedExpr}
use Rattle.sc_typed.specs.declared.typed_expr.TypedExpr.TheVariants as typed
use Rattle.sc_typed.specs.Capabilities.{Capabilities}
use Rattle.sc_typed.specs.Outcomes.{Outcome, ◌>>=◌, made, gives, check, as_entity, as_group}
use Rattle.sc_typed.specs.Outcomes as outcome
use Rattle.sc_typed.specs.TypedExprs.{place_of}
use Rattle.sc_typed.specs.Types.{is_true, is_false, is_boolean, is_true_in, is_false_in, is_boolean_in, truth}
use Rattle.sc_typed.proofs.OutcomeLaws.{after, through}
use Rattle.sc_typed.proofs.TypeOfLaws.{type_of_Is, type_of_Binary}
use Rattle.sc_typing_rules.specs.Operators.{may_be_in, within, decided}
use Rattle.sc_typing_rules.specs.Rules.{Operand, is_of, membership_by, membership, conjunction}
use Rattle.sc_typing.specs.Typing.{typing, part}
use Rattle.sc_typing.specs.WrittenOut.{is_and_in, TypesIsInAlike, ill_typed, of_the_type, of_another}
use Rattle.sc_typing.proofs.TypingLaws.{typing_And, typing_Binary, typing_Is, typing_IsIn}

-- ---- types of truth values

data IsTruth : Ty → Type 0 where
  always : IsTruth ty.True
  never : IsTruth ty.False
  maybe : IsTruth ty.Bool

pub by_kind : (f : Ty-F Ty → Bool) (t : Ty) (y : Ty-F Ty) → roll-Ty y ≡ t → f (out-Ty t) ≡ f y
by_kind f t y at = ap (λ z. f (out-Ty z)) (sym at) ∙ ap f (out-roll-Ty y)

-- the tests of a type, which is that of one of the truth values
record Tests (t : Ty) (always_true always_false : Bool) : Type 0 where
  of_true : is_true t ≡ always_true
  of_false : is_false t ≡ always_false
  of_boolean : is_boolean t ≡ true

tests_True : Tests ty.True true false
tests_True = record {
  of_true = by_kind is_true_in ty.True open_ty.True rolls-True;
  of_false = by_kind is_false_in ty.True open_ty.True rolls-True;
  of_boolean = by_kind is_boolean_in ty.True open_ty.True rolls-True;
}

tests_False : Tests ty.False false true
tests_False = record {
  of_true = by_kind is_true_in ty.False open_ty.False rolls-False;
  of_false = by_kind is_false_in ty.False open_ty.False rolls-False;
  of_boolean = by_kind is_boolean_in ty.False open_ty.False rolls-False;
}

tests_Bool : Tests ty.Bool false false
tests_Bool = record {
  of_true = by_kind is_true_in ty.Bool open_ty.Bool rolls-Bool;
  of_false = by_kind is_false_in ty.Bool open_ty.Bool rolls-Bool;
  of_boolean = by_kind is_boolean_in ty.Bool open_ty.Bool rolls-Bool;
}

truth_is : (b : Bool) → IsTruth (truth b)
truth_is true = always
truth_is false = never

-- ---- `&&` of what is always true and a truth value, neither of which gives anything

module _ (place : Place) (x y : TypedExpr) where
  -- by the tests of the sides' types
  abbrev conjoined : Bool → Bool → Bool → Bool → Ty → Outcome
  conjoined bx by fy ty_y type =
      check bx NotBoolean (place_of x) >>= λ p.
      check by NotBoolean (place_of y) >>= λ q.
      gives (typed.And place (if fy then ty.False else (if ty_y then type else ty.Bool)) x y) (if fy then [] else [])

  by_tests : (type : Ty) (t f : Bool) → outcome.ty x ≡ ty.True → outcome.ty y ≡ type → Tests type t f → conjunction place (made x []) (made y []) ≡ conjoined true true f t ty.True
  by_tests type t f p q k =
      let bx : is_boolean (outcome.ty x) ≡ true = ap is_boolean p ∙ tests_True.of_boolean in
      let by : is_boolean (outcome.ty y) ≡ true = ap is_boolean q ∙ k.of_boolean in
      let fy : is_false (outcome.ty y) ≡ f = ap is_false q ∙ k.of_false in
      let ty_y : is_true (outcome.ty y) ≡ t = ap is_true q ∙ k.of_true in
      λ i. conjoined (bx i) (by i) (fy i) (ty_y i) (p i)

  conjunction_is : (type : Ty) → IsTruth type → outcome.ty x ≡ ty.True → outcome.ty y ≡ type → conjunction place (made x []) (made y []) ≡ gives (typed.And place type x y) []
  conjunction_is _ always p q = by_tests ty.True true false p q tests_True
  conjunction_is _ never p q = by_tests ty.False false true p q tests_False
  conjunction_is _ maybe p q = by_tests ty.Bool false false p q tests_Bool

-- ---- `in` is a truth value

within_truth : (s : Declarations) (x y : TypedExpr) → IfOk (within s x y) IsTruth
within_truth s x y =
    after (as_entity x) _ _ λ t. after (as_group y) _ _ λ u.
    elim (may_be_in s t u) as (λ b. IsTruth (if b then ty.Bool else ty.False)) [
      | true ↦ maybe
      | false ↦ never
    ]

membership_truth : (o : Option Bool) (s : Declarations) (b : Operand) (known : Capabilities) (x : TypedExpr) → IfOk (membership_by o s b known x) (λ (r : Ty × TypedExpr). IsTruth r.0)
membership_truth (Some p) s b known x = truth_is p
membership_truth None s b known x = after (b.typed known) _ _ λ y. through IsTruth (within s x y.expr) _ _ (within_truth s x y.expr) λ type h. h

-- ---- the two forms

module _ (s : Declarations) (env : Env) (place : Place) (a : Expr) (t : TypeName) (in_place : Place) (b : Expr) (known : Capabilities) where
  abbrev Alike : Outcome → Outcome → Type 0
  Alike = TypesIsInAlike place a t in_place b

  abbrev among : Expr
  among = expr.Binary in_place In a b

  -- the right side of `in`
  abbrev right : TypedExpr → Result (Ty × TypedExpr) TypeFault
  right x = membership s a (part s env b) known x

  abbrev short : Result Bool TypeFault → TypedExpr → Outcome
  short r x = r >>= λ p. if p then (right x >>= λ y. gives (typed.IsIn place y.0 x t in_place y.1) []) else gives (typed.IsIn place ty.False x t in_place (typed.Skipped b)) []

  abbrev of_type : Result Bool TypeFault → TypedExpr → Outcome
  of_type r x = r >>= λ p. gives (typed.Is place (truth p) x t) []

  abbrev and_among : Typed → Outcome
  and_among x = if is_false (outcome.ty x.expr) then gives (typed.And place ty.False x.expr (typed.Skipped among)) [] else (typing s env among (known ++ x.given) >>= λ y. conjunction place x y)

  abbrev of_in : TypedExpr → Result (Ty × TypedExpr) TypeFault → Outcome
  of_in x q = q >>= λ y. gives (typed.Binary in_place y.0 In x y.1) []

  is_type : (x : TypedExpr) (type : Ty) → outcome.ty (typed.Is place type x t) ≡ type
  is_type x type = ap (λ (o : Option Ty). unwrap_or o ty.Bool) (type_of_Is place type x t)

  in_type : (x y : TypedExpr) (type : Ty) → outcome.ty (typed.Binary in_place type In x y) ≡ type
  in_type x y type = ap (λ (o : Option Ty). unwrap_or o ty.Bool) (type_of_Binary in_place type In x y)

  by_right : (x : TypedExpr) (q : Result (Ty × TypedExpr) TypeFault) → IfOk q (λ (r : Ty × TypedExpr). IsTruth r.0)
      → Alike (q >>= λ y. gives (typed.IsIn place y.0 x t in_place y.1) []) (of_in x q >>= λ y. conjunction place (made (typed.Is place ty.True x t) []) y)
  by_right x (Err fault) h = ill_typed fault
  by_right x (Ok (type, y)) h =
      subst (Alike _) (sym (conjunction_is place (typed.Is place ty.True x t) (typed.Binary in_place type In x y) type h (is_type x ty.True) (in_type x y type))) (of_the_type type x y)

  by_type : (r : Result Bool TypeFault) (x : TypedExpr) → typing s env among known ≡ of_in x (right x) → Alike (short r x) (of_type r x >>= and_among)
  by_type (Err fault) x h = ill_typed fault
  by_type (Ok false) x h =
      let f : is_false (outcome.ty (typed.Is place ty.False x t)) ≡ true = ap is_false (is_type x ty.False) ∙ tests_False.of_false in
      subst
      (λ c. Alike (short (Ok false) x) (if c then gives (typed.And place ty.False (typed.Is place ty.False x t) (typed.Skipped among)) [] else (typing s env among (known ++ []) >>= λ y. conjunction place (made (typed.Is place ty.False x t) []) y)))
      (sym f) (of_another x)
  by_type (Ok true) x h =
      let f : is_false (outcome.ty (typed.Is place ty.True x t)) ≡ false = ap is_false (is_type x ty.True) ∙ tests_True.of_false in
      let e : typing s env among (known ++ []) ≡ of_in x (right x) = ap (typing s env among) (append-nil known) ∙ h in
      subst
      (λ c. Alike (short (Ok true) x) (if c then gives (typed.And place ty.False (typed.Is place ty.True x t) (typed.Skipped among)) [] else (typing s env among (known ++ []) >>= λ y. conjunction place (made (typed.Is place ty.True x t) []) y)))
      (sym f)
      (subst (λ (o : Outcome). Alike (right x >>= λ y. gives (typed.IsIn place y.0 x t in_place y.1) []) (o >>= λ y. conjunction place (made (typed.Is place ty.True x t) []) y)) (sym e)
      (by_right x (right x) (membership_truth (decided s a b) s (part s env b) known x)))

  by_operand : (o : Outcome) → typing s env among known ≡ (o >>= λ x. of_in x.expr (right x.expr))
      → Alike (o >>= λ x. short (is_of t x.expr) x.expr) ((o >>= λ x. of_type (is_of t x.expr) x.expr) >>= and_among)
  by_operand (Err fault) h = ill_typed fault
  by_operand (Ok x) h = by_type (is_of t x.expr) x.expr h

  pub is_in_alike : Alike (typing s env (expr.IsIn place a t in_place b) known) (typing s env (is_and_in place a t in_place b) known)
  is_in_alike =
      let long = typing_And s env place (expr.Is place a t) among known ∙ ap (λ (o : Outcome). o >>= and_among) (typing_Is s env place a t known) in
      subst (λ o. Alike o (typing s env (is_and_in place a t in_place b) known)) (sym (typing_IsIn s env place a t in_place b known))
      (subst (Alike _) (sym long) (by_operand (typing s env a known) (typing_Binary s env in_place In a b known)))
