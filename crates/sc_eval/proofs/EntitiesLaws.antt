-- What `has` and `is` with more than one part stand for.
use Rattle.std.proofs.Common.{◌≡◌, ℕ, List, [], ◌∷◌, Bool, true, false, if◌then◌else◌, Result, Ok, Err, refl, sym, ap, ◌∙◌}
use Rattle.sc_ast.specs.declared.expr.Expr.{Expr}
use Rattle.sc_ast.specs.declared.expr.Expr.TheVariants as expr
use Rattle.sc_ast.specs.declared.expr.TypeName.{TypeName}
use Rattle.sc_ast.specs.declared.operator.BinaryOperator.TheVariants.{In}
use Rattle.sc_ast.specs.declared.place.Place.{Place}
use Rattle.sc_values.specs.declared.value.Value.{Value, out-Value}
use Rattle.sc_values.proofs.OutLaws.{out_Bool}
use Rattle.sc_world.specs.declared.world.World.{World}
use Rattle.sc_eval.specs.declared.error.EvalError.{EvalError}
use Rattle.sc_eval.specs.Outcomes.{Outcome, ◌>>=◌, bool_in, decide, of_bool}
use Rattle.sc_eval.specs.Entities.{access, has, has_path, is_of, is_in}
use Rattle.sc_eval.specs.Eval.{eval}
use Rattle.sc_eval.specs.Written.{and_has, has_each}
use Rattle.sc_eval.specs.ConstructLaws.{eval_And, eval_Has, eval_Is, eval_IsIn, eval_Binary, eval_Access, has_path-one}

-- ---- Bools that are asked for

-- a Bool that a test gives decides at once
pub decided : (r : Result Bool EvalError) (f : Bool → Outcome) → decide (r >>= of_bool) f ≡ (r >>= f)
decided (Ok b) f = ap (λ x. bool_in x >>= f) (out_Bool b)
decided (Err e) f = refl

pub asked_again : (r : Result Bool EvalError) → decide (r >>= of_bool) of_bool ≡ (r >>= of_bool)
asked_again r = decided r of_bool

-- ---- paths of names

then_has : (o : Outcome) (r : Value → Result Bool EvalError) → (o >>= r >>= of_bool) ≡ (o >>= λ x. r x >>= of_bool)
then_has (Ok x) r = refl
then_has (Err e) r = refl

path_on : (r : Result Bool EvalError) (o : Outcome) (rest : Value → Result Bool EvalError)
    → (r >>= (λ p. if p then (o >>= rest) else Ok false) >>= of_bool) ≡ (r >>= λ p. if p then decide (o >>= rest >>= of_bool) of_bool else of_bool false)
path_on (Err e) o rest = refl
path_on (Ok true) o rest = sym (asked_again (o >>= rest))
path_on (Ok false) o rest = refl

-- `x has a.b.c` stands for `x has a && x.a has b.c`
pub has_path-and : (place : Place) (x : Expr) (a b : List ℕ) (names : List (List ℕ)) (w : World)
    → eval (expr.Has place x (a ∷ b ∷ names)) w ≡ eval (expr.And place (expr.Has place x (a ∷ [])) (expr.Has place (expr.Access place x a) (b ∷ names))) w
has_path-and place x a b names w =
    eval_Has place x (a ∷ b ∷ names) w ∙ by_value (eval x w) ∙ sym (
    eval_And place (expr.Has place x (a ∷ [])) (expr.Has place (expr.Access place x a) (b ∷ names)) w
    ∙ ap (λ o. decide o (λ p. if p then decide (eval (expr.Has place (expr.Access place x a) (b ∷ names)) w) of_bool else of_bool false)) (eval_Has place x (a ∷ []) w)
    ∙ ap (λ o. decide (eval x w >>= has_path (a ∷ []) w >>= of_bool) (λ p. if p then decide o of_bool else of_bool false))
    (eval_Has place (expr.Access place x a) (b ∷ names) w ∙ ap (λ o. o >>= has_path (b ∷ names) w >>= of_bool) (eval_Access place x a w)))
  where
    by_value : (o : Outcome) → (o >>= has_path (a ∷ b ∷ names) w >>= of_bool)
        ≡ decide (o >>= has_path (a ∷ []) w >>= of_bool) (λ p. if p then decide (o >>= access a w >>= has_path (b ∷ names) w >>= of_bool) of_bool else of_bool false)
    by_value (Err e) = refl
    by_value (Ok y) =
        path_on (has a w y) (access a w y) (has_path (b ∷ names) w)
        ∙ ap (λ r. r >>= λ p. if p then decide (access a w y >>= has_path (b ∷ names) w >>= of_bool) of_bool else of_bool false) (sym (has_path-one a w y))
        ∙ sym (decided (has_path (a ∷ []) w y) (λ p. if p then decide (access a w y >>= has_path (b ∷ names) w >>= of_bool) of_bool else of_bool false))

-- `(p && a) && b` is `p && (a && b)`
again : (o : Outcome) (f : Bool → Outcome) → decide (decide o of_bool) f ≡ decide o f
again (Err e) f = refl
again (Ok x) f = decided (bool_in (out-Value x)) f

abbrev asked_then : Outcome → Bool → Outcome
asked_then o q = if q then decide o of_bool else of_bool false

then_asked : (o : Outcome) (r : Result Bool EvalError) → (r >>= asked_then o) ≡ decide (r >>= asked_then o) of_bool
then_asked o (Err e) = refl
then_asked o (Ok true) = sym (again o of_bool)
then_asked o (Ok false) = sym (decided (Ok false) of_bool)

and_asked : (a b : Outcome) → decide a (asked_then b) ≡ decide (decide a (asked_then b)) of_bool
and_asked (Err e) b = refl
and_asked (Ok x) b = then_asked b (bool_in (out-Value x))

grouped : (r : Result Bool EvalError) (a b : Outcome) → decide (r >>= asked_then a) (asked_then b) ≡ (r >>= asked_then (decide a (asked_then b)))
grouped (Err e) a b = refl
grouped (Ok true) a b = again a (asked_then b) ∙ and_asked a b
grouped (Ok false) a b = decided (Ok false) (asked_then b)

both_grouped : (p a b : Outcome) → decide (decide p (asked_then a)) (asked_then b) ≡ decide p (asked_then (decide a (asked_then b)))
both_grouped (Err e) a b = refl
both_grouped (Ok x) a b = grouped (bool_in (out-Value x)) a b

and_grouped : (place : Place) (p a b : Expr) (w : World) → eval (expr.And place (expr.And place p a) b) w ≡ eval (expr.And place p (expr.And place a b)) w
and_grouped place p a b w =
    eval_And place (expr.And place p a) b w
    ∙ ap (λ o. decide o (λ q. if q then decide (eval b w) of_bool else of_bool false)) (eval_And place p a w)
    ∙ both_grouped (eval p w) (eval a w) (eval b w)
    ∙ sym (eval_And place p (expr.And place a b) w
    ∙ ap (λ o. decide (eval p w) (λ q. if q then decide o of_bool else of_bool false)) (eval_And place a b w))

-- what stands behind `front &&`
under_and : (place : Place) (front a b : Expr) (w : World) → eval a w ≡ eval b w → eval (expr.And place front a) w ≡ eval (expr.And place front b) w
under_and place front a b w same =
    eval_And place front a w ∙ ap (λ o. decide (eval front w) (λ q. if q then decide o of_bool else of_bool false)) same ∙ sym (eval_And place front b w)

and_has-is : (place : Place) (front x : Expr) (name : List ℕ) (names : List (List ℕ)) (w : World)
    → eval (and_has place front x (name ∷ names)) w ≡ eval (expr.And place front (expr.Has place x (name ∷ names))) w
and_has-is place front x name [] w = refl
and_has-is place front x a (b ∷ names) w =
    and_has-is place (expr.And place front (expr.Has place x (a ∷ []))) (expr.Access place x a) b names w
    ∙ and_grouped place front (expr.Has place x (a ∷ [])) (expr.Has place (expr.Access place x a) (b ∷ names)) w
    ∙ under_and place front (expr.And place (expr.Has place x (a ∷ [])) (expr.Has place (expr.Access place x a) (b ∷ names))) (expr.Has place x (a ∷ b ∷ names)) w
    (sym (has_path-and place x a b names w))

-- `x has a.b.c` stands for `x has a && x.a has b && x.a.b has c`
pub has_each-is : (place : Place) (x : Expr) (name : List ℕ) (names : List (List ℕ)) (w : World) → eval (expr.Has place x (name ∷ names)) w ≡ eval (has_each place x name names) w
has_each-is place x a [] w = refl
has_each-is place x a (b ∷ names) w =
    has_path-and place x a b names w ∙ sym (and_has-is place (expr.Has place x (a ∷ [])) (expr.Access place x a) b names w)

-- ---- a type and an entity

in_true : (q : Outcome) (within : Value → Result Bool EvalError) → (q >>= within >>= of_bool) ≡ decide (q >>= λ y. within y >>= of_bool) of_bool
in_true (Err e) within = refl
in_true (Ok y) within = sym (asked_again (within y))

in_when : (r : Result Bool EvalError) (q : Outcome) (within : Value → Result Bool EvalError)
    → (r >>= λ p. if p then (q >>= within >>= of_bool) else of_bool false) ≡ (r >>= λ p. if p then decide (q >>= λ y. within y >>= of_bool) of_bool else of_bool false)
in_when (Err e) q within = refl
in_when (Ok true) q within = in_true q within
in_when (Ok false) q within = refl

in_type : (o : Outcome) (q : Outcome) (is : Value → Result Bool EvalError) (within : Value → Value → Result Bool EvalError)
    → (o >>= λ x. is x >>= λ p. if p then (q >>= within x >>= of_bool) else of_bool false)
    ≡ decide (o >>= is >>= of_bool) (λ p. if p then decide (o >>= λ x. q >>= λ y. within x y >>= of_bool) of_bool else of_bool false)
in_type (Err e) q is within = refl
in_type (Ok x) q is within =
    in_when (is x) q (within x) ∙ sym (decided (is x) (λ p. if p then decide (q >>= λ y. within x y >>= of_bool) of_bool else of_bool false))

-- `x is T in b` stands for `x is T && x in b`
pub is_in-and : (place in_place : Place) (x b : Expr) (t : TypeName) (w : World)
    → eval (expr.IsIn place x t in_place b) w ≡ eval (expr.And place (expr.Is place x t) (expr.Binary in_place In x b)) w
is_in-and place in_place x b t w =
    eval_IsIn place x t in_place b w ∙ in_type (eval x w) (eval b w) (is_of t.name) (is_in w) ∙ sym (
    eval_And place (expr.Is place x t) (expr.Binary in_place In x b) w
    ∙ ap (λ o. decide o (λ p. if p then decide (eval (expr.Binary in_place In x b) w) of_bool else of_bool false)) (eval_Is place x t w)
    ∙ ap (λ o. decide (eval x w >>= is_of t.name >>= of_bool) (λ p. if p then decide o of_bool else of_bool false)) (eval_Binary in_place In x b w))
