-- `a has b.c.d` with types, as what it is short for, and that the two are typed alike.
use Rattle.std.specs.Prelude.{◌≡◌, ℕ, List, [], ◌∷◌, Ok, Err, None}
use Rattle.sc_ast.specs.declared.expr.Expr.{Expr}
use Rattle.sc_ast.specs.declared.expr.Expr.TheVariants as expr
use Rattle.sc_ast.specs.declared.place.Place.{Place}
use Rattle.sc_eval.specs.Written.{has_each}
use Rattle.sc_schema.specs.declared.declarations.Env.{Env}
use Rattle.sc_schema.specs.declared.ty.Ty.{Ty}
use Rattle.sc_schema.specs.declared.ty.Ty.TheVariants as types
use Rattle.sc_schema.specs.Declarations.{Declarations}
use Rattle.sc_typed.specs.declared.fault.TypeFault.{TypeFault}
use Rattle.sc_typed.specs.declared.fault.TypeRule.TheVariants.{NotObject}
use Rattle.sc_typed.specs.declared.outcome.Typed.{Typed}
use Rattle.sc_typed.specs.declared.typed_expr.HasStep.{HasStep}
use Rattle.sc_typed.specs.declared.typed_expr.TypedExpr.{TypedExpr}
use Rattle.sc_typed.specs.declared.typed_expr.TypedExpr.TheVariants as typed
use Rattle.sc_typed.specs.Capabilities.{Capabilities}
use Rattle.sc_typed.specs.Outcomes.{Outcome, gives, fails, ty}
use Rattle.sc_typed.specs.TypedExprs.{place_of}
use Rattle.sc_typed.specs.Types.{attributes}
use Rattle.sc_typing_rules.specs.Rules.{and_type}
use Rattle.sc_typing.specs.Typing.{typing}

-- one name, asked of x
abbrev pub asked : Place → TypedExpr → HasStep → TypedExpr
asked place x step = typed.Has place step.found x (step ∷ []) []

-- `x && y`
abbrev pub conjoined : Place → TypedExpr → TypedExpr → TypedExpr
conjoined place x y = typed.And place (and_type x y) x y

-- `front && x has b && x.b has c` where front is never true: what is behind it is skipped
abbrev pub and_skipped : Place → TypedExpr → Expr → List (List ℕ) → TypedExpr
and_skipped place front x [] = front
and_skipped place front x (name ∷ names) =
    and_skipped place (typed.And place types.False front (typed.Skipped (expr.Has place x (name ∷ []))))
    (expr.Access place x name) names

-- `front && a.name has b && a.name.b has c`, of a as it is written and of x, which is a with its types: each step is
-- asked of an object of the step's type, and the names after the steps are skipped
abbrev pub and_asked : Place → TypedExpr → Expr → TypedExpr → List ℕ → List HasStep → List (List ℕ) → TypedExpr
and_asked place front a x name [] skipped = and_skipped place front (expr.Access place a name) skipped
and_asked place front a x name (step ∷ steps) skipped =
    and_asked place (conjoined place front (asked place (typed.Access place step.object x name) step))
    (expr.Access place a name) (typed.Access place step.object x name) step.name steps skipped

-- `a has b && a.b has c && a.b.c has d`
abbrev pub each_asked : Place → Expr → TypedExpr → HasStep → List HasStep → List (List ℕ) → TypedExpr
each_asked place a x step steps skipped = and_asked place (asked place x step) a x step.name steps skipped

-- what the short form and the long one give: one fault at one place, or one type, the same of each name, and the same
-- that is known; the names that the short form skips are skipped in the long one
pub data TypesHasAlike (s : Declarations) (env : Env) (place : Place) (a : Expr) (known : Capabilities) : Outcome
    → Outcome → Type 0 where
  -- a has a fault itself
  of_operand : (fault : TypeFault) → typing s env a known ≡ Err fault
      → TypesHasAlike s env place a known (Err fault) (Err fault)
  -- a is no object: the fault stands at a
  at_operand : (x : Typed) → typing s env a known ≡ Ok x → attributes s (ty x.expr) ≡ None
      → TypesHasAlike s env place a known (fails NotObject (place_of x.expr)) (fails NotObject (place_of x.expr))
  -- what is found at a name that isn't the last is no object: the fault stands at the word `has`
  at_name : (x : Typed) → typing s env a known ≡ Ok x
      → TypesHasAlike s env place a known (fails NotObject place) (fails NotObject place)
  well_typed : (x : Typed) (type : Ty) (step : HasStep) (steps : List HasStep) (skipped : List (List ℕ))
      (given : Capabilities)
      → typing s env a known ≡ Ok x → ty (each_asked place a x.expr step steps skipped) ≡ type
      → TypesHasAlike s env place a known
      (gives (typed.Has place type x.expr (step ∷ steps) skipped) given)
      (gives (each_asked place a x.expr step steps skipped) given)

-- the two forms are typed alike in an environment, under what is known
abbrev pub IsShort : Declarations → Env → Place → Expr → List ℕ → List (List ℕ) → Capabilities → Type 0
IsShort s env place a name names known =
    TypesHasAlike s env place a known (typing s env (expr.Has place a (name ∷ names)) known)
    (typing s env (has_each place a name names) known)
