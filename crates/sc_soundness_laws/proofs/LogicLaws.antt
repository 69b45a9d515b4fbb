-- `if`, `||` and `&&` of operands that keep what their types say.
use Rattle.std.proofs.Common.{◌≡◌, [], ◌++◌, Bool, true, false, if◌then◌else◌, Option, Some, unwrap_or, Ok, Err, IfOk, IsTrue, refl, sym, ap, subst, ◌∙◌}
use Rattle.sc_laws.proofs.BoolLaws.{never}
use Rattle.sc_ast.specs.declared.place.Place.{Place}
use Rattle.sc_schema.specs.declared.ty.Ty.{Ty, Ty-F, out-Ty}
use Rattle.sc_schema.specs.declared.ty.Ty.TheVariants as types
use Rattle.sc_schema.specs.declared.ty.Ty.TheOpen as t
use Rattle.sc_values.specs.declared.value.Value.{Value, out-Value}
use Rattle.sc_values.specs.declared.value.Value.TheVariants as value
use Rattle.sc_values.proofs.OutLaws.{out_Bool}
use Rattle.sc_world.specs.declared.world.World.{World}
use Rattle.sc_world.specs.Conforms.{conforms}
use Rattle.sc_eval.specs.declared.error.EvalError.{EvalError}
use Rattle.sc_eval.specs.declared.error.EvalError.TheVariants.{Overflow}
use Rattle.sc_eval.specs.Outcomes.{Outcome, ◌>>=◌, bool_in, decide, of_bool}
use Rattle.sc_eval.specs.Eval.{eval}
use Rattle.sc_typed.specs.declared.outcome.Typed.{Typed}
use Rattle.sc_typed.specs.declared.typed_expr.TypedExpr.{TypedExpr}
use Rattle.sc_typed.specs.declared.typed_expr.TypedExpr.TheVariants as typed
use Rattle.sc_typed.specs.Types.{is_true, is_true_in, is_false, is_false_in, is_boolean, is_boolean_in, join}
use Rattle.sc_typed.specs.TypedExprs.{type_of}
use Rattle.sc_typed.specs.Capabilities.{Capabilities, common}
use Rattle.sc_typed.specs.Outcomes.{made, ty}
use Rattle.sc_typing_rules.specs.Rules.{Operand, branches, choice, or_type, or_given, either, and_type, and_given, both}
use Rattle.sc_typed.proofs.OutcomeLaws.{through, in_either, checked, found}
use Rattle.sc_typed.proofs.TypeOfLaws.{type_of_If, type_of_Or, type_of_And}
use Rattle.sc_soundness_laws.specs.Sound.{IsOf, OrOverflows, AllHold, IsSound, SoundAs, Sounds}
use Rattle.sc_soundness_laws.proofs.ValueLaws.{by_test, Fits, true_fits, false_fits, bool_fits, fits-true, fits-false, boolean, of_Bool}
use Rattle.sc_soundness_laws.proofs.JoinLaws.{IsWithin, Joins, join-within}
use Rattle.sc_soundness_laws.proofs.HoldingLaws.{is_true as is_true_value, no_error, both-hold, common-first, common-second}

-- ---- types of truth values

true_is_boolean : (y : Ty-F Ty) → is_true_in y ≡ true → is_boolean_in y ≡ true
true_is_boolean t.True h = refl
true_is_boolean _ h = absurd cc

false_is_boolean : (y : Ty-F Ty) → is_false_in y ≡ true → is_boolean_in y ≡ true
false_is_boolean t.False h = refl
false_is_boolean _ h = absurd cc

pub given_by_test : (P : Capabilities → Type 0) (b : Bool) (x y : Capabilities) → (b ≡ true → P x) → (b ≡ false → P y) → P (if b then x else y)
given_by_test P true x y h k = h refl
given_by_test P false x y h k = k refl

fits_as : (type : Ty) (b c : Bool) → b ≡ c → Fits type c → Fits type b
fits_as type b c e h = subst (Fits type) (sym e) h

module _ (x y : TypedExpr) where
  -- a false left side
  and_left_false : Fits (ty x) false → Fits (and_type x y) false
  and_left_false h =
      by_test (λ u. Fits u false) (is_false (ty y)) types.False (if is_true (ty y) then ty x else types.Bool) (λ f. false_fits) λ f.
      by_test (λ u. Fits u false) (is_true (ty y)) (ty x) types.Bool (λ g. h) λ g. bool_fits false

  and_left_true : (q : Bool) → Fits (ty x) true → Fits (ty y) q → Fits (and_type x y) q
  and_left_true q h k =
      by_test (λ u. Fits u q) (is_false (ty y)) types.False (if is_true (ty y) then ty x else types.Bool) (λ f. fits_as types.False q false (fits-false (ty y) q f k) false_fits) λ f.
      by_test (λ u. Fits u q) (is_true (ty y)) (ty x) types.Bool (λ g. fits_as (ty x) q true (fits-true (ty y) q g k) h) λ g. bool_fits q

  or_left_true : Fits (ty x) true → Fits (or_type x y) true
  or_left_true h =
      by_test (λ u. Fits u true) (is_false (ty x)) (ty y) (if is_true (ty y) then types.True else types.Bool) (λ f. never _ (fits-false (ty x) true f h)) λ f.
      by_test (λ u. Fits u true) (is_true (ty y)) types.True types.Bool (λ g. true_fits) λ g. bool_fits true

  or_left_false : (q : Bool) → Fits (ty y) q → Fits (or_type x y) q
  or_left_false q k =
      by_test (λ u. Fits u q) (is_false (ty x)) (ty y) (if is_true (ty y) then types.True else types.Bool) (λ f. k) λ f.
      by_test (λ u. Fits u q) (is_true (ty y)) types.True types.Bool (λ g. fits_as types.True q true (fits-true (ty y) q g k) true_fits) λ g. bool_fits q

module _ (w : World) where
  -- ---- outcomes

  pub ty_is : (x : TypedExpr) (type : Ty) → type_of x ≡ Some type → ty x ≡ type
  ty_is x type at = ap (λ (o : Option Ty). unwrap_or o types.Bool) at

  pub overflows : (e : EvalError) (x : Typed) → e ≡ Overflow → IsSound w (Err e) x
  overflows e x h = record { outcome = h; given = λ k. absurd (no_error e k) }

  pub gives_bool : (x : TypedExpr) (type : Ty) (given : Capabilities) (b : Bool) → type_of x ≡ Some type → Fits type b → (b ≡ true → AllHold w given) → IsSound w (of_bool b) (made x given)
  gives_bool x type given b at h k = record {
    outcome = subst (λ u. IsOf w u (value.Bool b)) (sym (ty_is x type at)) (of_Bool w type b h);
    given = λ e. k (is_true_value b e);
  }

  pub gives_as : (x : TypedExpr) (type : Ty) (given : Capabilities) (o : Outcome) → type_of x ≡ Some type → OrOverflows (IsOf w type) o → (o ≡ Ok (value.Bool true) → AllHold w given) → IsSound w o (made x given)
  gives_as x type given o at h k = record { outcome = subst (λ u. OrOverflows (IsOf w u) o) (sym (ty_is x type at)) h; given = k }

  pub widened : (a u : Ty) (o : Outcome) → IsWithin a u → OrOverflows (IsOf w a) o → OrOverflows (IsOf w u) o
  widened a u (Ok x) f h = record { conforming = f x h.conforming; stored = h.stored }
  widened a u (Err e) f h = h

  decided_at : (x : Value) (b : Bool) (f : Bool → Outcome) → x ≡ value.Bool b → decide (Ok x) f ≡ f b
  decided_at x b f is = ap (λ z. bool_in z >>= f) (ap out-Value is ∙ out_Bool b)

  -- what follows a truth value
  pub decided : (type : Ty) (o : Outcome) (f : Bool → Outcome) (x : Typed) → is_boolean type ≡ true → OrOverflows (IsOf w type) o
      → ((b : Bool) → o ≡ Ok (value.Bool b) → Fits type b → IsSound w (f b) x) → IsSound w (decide o f) x
  decided type (Err e) f x k h g = overflows e x h
  decided type (Ok y) f x k h g =
      let p = boolean type y k h.conforming in
      subst (λ o. IsSound w o x) (sym (decided_at y p.0 f p.1)) (g p.0 (ap Ok p.1) (subst (λ z. IsTrue (conforms type z)) p.1 h.conforming))

  -- ---- `&&`

  abbrev and_outcome : Outcome → Outcome → Outcome
  and_outcome a b = decide a (λ p. if p then decide b of_bool else of_bool false)

  and_false_sound : (place : Place) (x : Typed) (skipped : TypedExpr) (a b : Outcome) → is_false (ty x.expr) ≡ true → IsSound w a x → IsSound w (and_outcome a b) (made (typed.And place types.False x.expr skipped) [])
  and_false_sound place x skipped a b f h =
      decided (ty x.expr) a _ (made (typed.And place types.False x.expr skipped) []) (false_is_boolean (out-Ty (ty x.expr)) f) h.outcome λ p at fit.
      subst (λ (q : Bool). IsSound w (if q then decide b of_bool else of_bool false) (made (typed.And place types.False x.expr skipped) [])) (sym (fits-false (ty x.expr) p f fit))
      (gives_bool (typed.And place types.False x.expr skipped) types.False [] false (type_of_And place types.False x.expr skipped) false_fits (λ e. tt))

  abbrev and_whole : Place → Typed → Typed → Typed
  and_whole place x y = made (typed.And place (and_type x.expr y.expr) x.expr y.expr) (and_given x y)

  gives_and : (place : Place) (x y : Typed) (b : Bool) → Fits (and_type x.expr y.expr) b → (b ≡ true → AllHold w (and_given x y)) → IsSound w (of_bool b) (and_whole place x y)
  gives_and place x y b h k = gives_bool (typed.And place (and_type x.expr y.expr) x.expr y.expr) (and_type x.expr y.expr) (and_given x y) b (type_of_And place (and_type x.expr y.expr) x.expr y.expr) h k

  and_right : (place : Place) (x y : Typed) (b : Outcome) → is_boolean (ty y.expr) ≡ true → Fits (ty x.expr) true → AllHold w x.given → IsSound w b y → IsSound w (decide b of_bool) (and_whole place x y)
  and_right place x y b d fit first h =
      decided (ty y.expr) b of_bool (and_whole place x y) d h.outcome λ q at fit_right.
      gives_and place x y q (and_left_true x.expr y.expr q fit fit_right) λ e.
      given_by_test (AllHold w) (is_false (ty y.expr)) [] (x.given ++ y.given) (λ f. tt) λ f. both-hold w x.given y.given first (h.given (at ∙ ap (λ (r : Bool). Ok (value.Bool r)) e))

  and_left : (place : Place) (x y : Typed) (a b : Outcome) (known : Capabilities) → is_boolean (ty y.expr) ≡ true → AllHold w known → IsSound w a x → (AllHold w (known ++ x.given) → IsSound w b y)
      → (p : Bool) → a ≡ Ok (value.Bool p) → Fits (ty x.expr) p → IsSound w (if p then decide b of_bool else of_bool false) (and_whole place x y)
  and_left place x y a b known d held h k true at fit = let first = h.given at in and_right place x y b d fit first (k (both-hold w known x.given held first))
  and_left place x y a b known d held h k false at fit = gives_and place x y false (and_left_false x.expr y.expr fit) (λ e. never _ (sym e))

  and_sound : (place : Place) (x y : Typed) (a b : Outcome) (known : Capabilities) → is_boolean (ty x.expr) ≡ true → is_boolean (ty y.expr) ≡ true → AllHold w known → IsSound w a x → (AllHold w (known ++ x.given) → IsSound w b y)
      → IsSound w (and_outcome a b) (and_whole place x y)
  and_sound place x y a b known c d held h k = decided (ty x.expr) a _ (and_whole place x y) c h.outcome (and_left place x y a b known d held h k)

  -- ---- `||`

  abbrev or_outcome : Outcome → Outcome → Outcome
  or_outcome a b = decide a (λ p. if p then of_bool true else decide b of_bool)

  abbrev or_true_whole : Place → Typed → TypedExpr → Typed
  or_true_whole place x skipped = made (typed.Or place types.True x.expr skipped) []

  or_true_sound : (place : Place) (x : Typed) (skipped : TypedExpr) (a b : Outcome) → is_true (ty x.expr) ≡ true → IsSound w a x → IsSound w (or_outcome a b) (or_true_whole place x skipped)
  or_true_sound place x skipped a b t h =
      decided (ty x.expr) a _ (or_true_whole place x skipped) (true_is_boolean (out-Ty (ty x.expr)) t) h.outcome λ p at fit.
      subst (λ (q : Bool). IsSound w (if q then of_bool true else decide b of_bool) (or_true_whole place x skipped)) (sym (fits-true (ty x.expr) p t fit))
      (gives_bool (typed.Or place types.True x.expr skipped) types.True [] true (type_of_Or place types.True x.expr skipped) true_fits (λ e. tt))

  abbrev or_whole : Place → Typed → Typed → Typed
  or_whole place x y = made (typed.Or place (or_type x.expr y.expr) x.expr y.expr) (or_given x y)

  gives_or : (place : Place) (x y : Typed) (b : Bool) → Fits (or_type x.expr y.expr) b → (b ≡ true → AllHold w (or_given x y)) → IsSound w (of_bool b) (or_whole place x y)
  gives_or place x y b h k = gives_bool (typed.Or place (or_type x.expr y.expr) x.expr y.expr) (or_type x.expr y.expr) (or_given x y) b (type_of_Or place (or_type x.expr y.expr) x.expr y.expr) h k

  abbrev or_rest : Typed → Typed → Capabilities
  or_rest x y = if is_false (ty y.expr) then x.given else common x.given y.given

  -- what a true left side gives
  left_gives : (x y : Typed) → Fits (ty x.expr) true → AllHold w x.given → AllHold w (or_given x y)
  left_gives x y fit h =
      given_by_test (AllHold w) (is_false (ty x.expr)) y.given (if is_true (ty y.expr) then [] else or_rest x y) (λ f. never _ (fits-false (ty x.expr) true f fit)) λ f.
      given_by_test (AllHold w) (is_true (ty y.expr)) [] (or_rest x y) (λ g. tt) λ g.
      given_by_test (AllHold w) (is_false (ty y.expr)) x.given (common x.given y.given) (λ e. h) λ e. common-first w x.given y.given h

  -- what a true right side gives
  right_gives : (x y : Typed) → Fits (ty y.expr) true → AllHold w y.given → AllHold w (or_given x y)
  right_gives x y fit h =
      given_by_test (AllHold w) (is_false (ty x.expr)) y.given (if is_true (ty y.expr) then [] else or_rest x y) (λ f. h) λ f.
      given_by_test (AllHold w) (is_true (ty y.expr)) [] (or_rest x y) (λ g. tt) λ g.
      given_by_test (AllHold w) (is_false (ty y.expr)) x.given (common x.given y.given) (λ e. never _ (fits-false (ty y.expr) true e fit)) λ e. common-second w x.given y.given h

  or_right : (place : Place) (x y : Typed) (b : Outcome) → is_boolean (ty y.expr) ≡ true → IsSound w b y → IsSound w (decide b of_bool) (or_whole place x y)
  or_right place x y b d h =
      decided (ty y.expr) b of_bool (or_whole place x y) d h.outcome λ q at fit.
      gives_or place x y q (or_left_false x.expr y.expr q fit) λ e.
      right_gives x y (subst (Fits (ty y.expr)) e fit) (h.given (at ∙ ap (λ (r : Bool). Ok (value.Bool r)) e))

  or_left : (place : Place) (x y : Typed) (a b : Outcome) → is_boolean (ty y.expr) ≡ true → IsSound w a x → IsSound w b y
      → (p : Bool) → a ≡ Ok (value.Bool p) → Fits (ty x.expr) p → IsSound w (if p then of_bool true else decide b of_bool) (or_whole place x y)
  or_left place x y a b d h k true at fit = gives_or place x y true (or_left_true x.expr y.expr fit) (λ e. left_gives x y fit (h.given at))
  or_left place x y a b d h k false at fit = or_right place x y b d k

  or_sound : (place : Place) (x y : Typed) (a b : Outcome) → is_boolean (ty x.expr) ≡ true → is_boolean (ty y.expr) ≡ true → IsSound w a x → IsSound w b y → IsSound w (or_outcome a b) (or_whole place x y)
  or_sound place x y a b c d h k = decided (ty x.expr) a _ (or_whole place x y) c h.outcome (or_left place x y a b d h k)

  -- ---- `if`

  abbrev if_outcome : Outcome → Outcome → Outcome → Outcome
  if_outcome c a b = decide c (λ p. if p then a else b)

  abbrev if_whole : Place → Ty → TypedExpr → TypedExpr → TypedExpr → Capabilities → Typed
  if_whole place type c a b given = made (typed.If place type c a b) given

  if_true_sound : (place : Place) (x y : Typed) (skipped : TypedExpr) (c a b : Outcome) (known : Capabilities) → is_true (ty x.expr) ≡ true → AllHold w known → IsSound w c x → (AllHold w (known ++ x.given) → IsSound w a y)
      → IsSound w (if_outcome c a b) (if_whole place (ty y.expr) x.expr y.expr skipped (x.given ++ y.given))
  if_true_sound place x y skipped c a b known t held h k =
      let whole : Typed = if_whole place (ty y.expr) x.expr y.expr skipped (x.given ++ y.given) in
      decided (ty x.expr) c _ whole (true_is_boolean (out-Ty (ty x.expr)) t) h.outcome λ p at fit.
      let is : p ≡ true = fits-true (ty x.expr) p t fit in
      let first : AllHold w x.given = h.given (at ∙ ap (λ (r : Bool). Ok (value.Bool r)) is) in
      let taken = k (both-hold w known x.given held first) in
      subst (λ (q : Bool). IsSound w (if q then a else b) whole) (sym is)
      (gives_as (typed.If place (ty y.expr) x.expr y.expr skipped) (ty y.expr) (x.given ++ y.given) a (type_of_If place (ty y.expr) x.expr y.expr skipped) taken.outcome (λ e. both-hold w x.given y.given first (taken.given e)))

  if_false_sound : (place : Place) (x z : Typed) (skipped : TypedExpr) (c a b : Outcome) → is_false (ty x.expr) ≡ true → IsSound w c x → IsSound w b z
      → IsSound w (if_outcome c a b) (if_whole place (ty z.expr) x.expr skipped z.expr z.given)
  if_false_sound place x z skipped c a b f h k =
      let whole : Typed = if_whole place (ty z.expr) x.expr skipped z.expr z.given in
      decided (ty x.expr) c _ whole (false_is_boolean (out-Ty (ty x.expr)) f) h.outcome λ p at fit.
      subst (λ (q : Bool). IsSound w (if q then a else b) whole) (sym (fits-false (ty x.expr) p f fit))
      (gives_as (typed.If place (ty z.expr) x.expr skipped z.expr) (ty z.expr) z.given b (type_of_If place (ty z.expr) x.expr skipped z.expr) k.outcome k.given)

  abbrev if_given : Typed → Typed → Typed → Capabilities
  if_given x y z = common (x.given ++ y.given) z.given

  if_branch : (place : Place) (type : Ty) (x y z : Typed) (c a b : Outcome) (known : Capabilities) → Joins (ty y.expr) (ty z.expr) type → AllHold w known → IsSound w c x → (AllHold w (known ++ x.given) → IsSound w a y) → IsSound w b z
      → (p : Bool) → c ≡ Ok (value.Bool p) → IsSound w (if p then a else b) (if_whole place type x.expr y.expr z.expr (if_given x y z))
  if_branch place type x y z c a b known j held h k l true at =
      let first : AllHold w x.given = h.given at in
      let taken = k (both-hold w known x.given held first) in
      gives_as (typed.If place type x.expr y.expr z.expr) type (if_given x y z) a (type_of_If place type x.expr y.expr z.expr) (widened (ty y.expr) type a j.first taken.outcome)
      (λ e. common-first w (x.given ++ y.given) z.given (both-hold w x.given y.given first (taken.given e)))
  if_branch place type x y z c a b known j held h k l false at =
      gives_as (typed.If place type x.expr y.expr z.expr) type (if_given x y z) b (type_of_If place type x.expr y.expr z.expr) (widened (ty z.expr) type b j.second l.outcome)
      (λ e. common-second w (x.given ++ y.given) z.given (l.given e))

  if_sound : (place : Place) (type : Ty) (x y z : Typed) (c a b : Outcome) (known : Capabilities) → is_boolean (ty x.expr) ≡ true → Joins (ty y.expr) (ty z.expr) type → AllHold w known → IsSound w c x → (AllHold w (known ++ x.given) → IsSound w a y) → IsSound w b z
      → IsSound w (if_outcome c a b) (if_whole place type x.expr y.expr z.expr (if_given x y z))
  if_sound place type x y z c a b known d j held h k l =
      decided (ty x.expr) c _ (if_whole place type x.expr y.expr z.expr (if_given x y z)) d h.outcome λ p at fit. if_branch place type x y z c a b known j held h k l p at

  -- ---- the constructs

  abbrev At : Operand → Outcome
  At a = eval a.expr w

  pub both_sound : (place : Place) (a b : Operand) → Sounds w a → Sounds w b → (known : Capabilities) → IfOk (both place a b known) (SoundAs w known (and_outcome (At a) (At b)))
  both_sound place a b h k known =
      let Q : Typed → Type 0 = SoundAs w known (and_outcome (At a) (At b)) in
      through (SoundAs w known (At a)) (a.typed known) _ Q (h known) λ x p.
      in_either (is_false (ty x.expr)) _ _ Q
      (λ f held. and_false_sound place x (typed.Skipped b.expr) (At a) (At b) f (p held))
      (λ f. through (SoundAs w (known ++ x.given) (At b)) (b.typed (known ++ x.given)) _ Q (k (known ++ x.given)) λ y q.
      checked (is_boolean (ty x.expr)) _ _ _ Q λ c.
      checked (is_boolean (ty y.expr)) _ _ _ Q λ d held.
      and_sound place x y (At a) (At b) known c d held (p held) q)

  pub either_sound : (place : Place) (a b : Operand) → Sounds w a → Sounds w b → (known : Capabilities) → IfOk (either place a b known) (SoundAs w known (or_outcome (At a) (At b)))
  either_sound place a b h k known =
      let Q : Typed → Type 0 = SoundAs w known (or_outcome (At a) (At b)) in
      through (SoundAs w known (At a)) (a.typed known) _ Q (h known) λ x p.
      in_either (is_true (ty x.expr)) _ _ Q
      (λ t held. or_true_sound place x (typed.Skipped b.expr) (At a) (At b) t (p held))
      (λ t. through (SoundAs w known (At b)) (b.typed known) _ Q (k known) λ y q.
      checked (is_boolean (ty x.expr)) _ _ _ Q λ c.
      checked (is_boolean (ty y.expr)) _ _ _ Q λ d held.
      or_sound place x y (At a) (At b) c d (p held) (q held))

  branches_sound : (place : Place) (x y z : Typed) (c a b : Outcome) (known : Capabilities) → SoundAs w known c x → SoundAs w (known ++ x.given) a y → SoundAs w known b z → IfOk (branches place x y z) (SoundAs w known (if_outcome c a b))
  branches_sound place x y z c a b known p q r =
      let Q : Typed → Type 0 = SoundAs w known (if_outcome c a b) in
      checked (is_boolean (ty x.expr)) _ _ _ Q λ d.
      found (join (ty y.expr) (ty z.expr)) _ _ _ Q λ type j held.
      if_sound place type x y z c a b known d (join-within (ty y.expr) (ty z.expr) type j) held (p held) q (r held)

  pub choice_sound : (place : Place) (c a b : Operand) → Sounds w c → Sounds w a → Sounds w b → (known : Capabilities) → IfOk (choice place c a b known) (SoundAs w known (if_outcome (At c) (At a) (At b)))
  choice_sound place c a b h k l known =
      let Q : Typed → Type 0 = SoundAs w known (if_outcome (At c) (At a) (At b)) in
      through (SoundAs w known (At c)) (c.typed known) _ Q (h known) λ x p.
      in_either (is_true (ty x.expr)) _ _ Q
      (λ t. through (SoundAs w (known ++ x.given) (At a)) (a.typed (known ++ x.given)) _ Q (k (known ++ x.given)) λ y q held.
      if_true_sound place x y (typed.Skipped b.expr) (At c) (At a) (At b) known t held (p held) q)
      (λ t. in_either (is_false (ty x.expr)) _ _ Q
      (λ f. through (SoundAs w known (At b)) (b.typed known) _ Q (l known) λ z r held.
      if_false_sound place x z (typed.Skipped a.expr) (At c) (At a) (At b) f (p held) (r held))
      (λ f. through (SoundAs w (known ++ x.given) (At a)) (a.typed (known ++ x.given)) _ Q (k (known ++ x.given)) λ y q.
      through (SoundAs w known (At b)) (b.typed known) _ Q (l known) λ z r.
      branches_sound place x y z (At c) (At a) (At b) known p q r))
