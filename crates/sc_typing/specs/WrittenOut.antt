-- What is short for something longer, and that the two are typed alike.
use Rattle.std.specs.Prelude.{[], Err}
use Rattle.sc_ast.specs.declared.expr.Expr.{Expr}
use Rattle.sc_ast.specs.declared.expr.Expr.TheVariants as expr
use Rattle.sc_ast.specs.declared.expr.TypeName.{TypeName}
use Rattle.sc_ast.specs.declared.operator.BinaryOperator.TheVariants.{In}
use Rattle.sc_ast.specs.declared.place.Place.{Place}
use Rattle.sc_schema.specs.declared.declarations.Env.{Env}
use Rattle.sc_schema.specs.declared.ty.Ty.{Ty}
use Rattle.sc_schema.specs.declared.ty.Ty.TheVariants as ty
use Rattle.sc_schema.specs.Declarations.{Declarations}
use Rattle.sc_typed.specs.declared.fault.TypeFault.{TypeFault}
use Rattle.sc_typed.specs.declared.typed_expr.TypedExpr.{TypedExpr}
use Rattle.sc_typed.specs.declared.typed_expr.TypedExpr.TheVariants as typed
use Rattle.sc_typed.specs.Capabilities.{Capabilities}
use Rattle.sc_typed.specs.Outcomes.{Outcome, gives}
use Rattle.sc_typing.specs.Typing.{typing}

-- `a is T in b` as `a is T && a in b`, with `&&` at the place of `is`
abbrev pub is_and_in : Place → Expr → TypeName → Place → Expr → Expr
is_and_in place a t in_place b = expr.And place (expr.Is place a t) (expr.Binary in_place In a b)

-- what the short form and the long one give: one fault, or one type, the same parts with their types, and nothing
-- known; `in` is skipped in both or in neither
pub data TypesIsInAlike (place : Place) (a : Expr) (t : TypeName) (in_place : Place) (b : Expr) : Outcome → Outcome
    → Type 0 where
  ill_typed : (fault : TypeFault) → TypesIsInAlike place a t in_place b (Err fault) (Err fault)
  of_the_type : (type : Ty) (x y : TypedExpr)
      → TypesIsInAlike place a t in_place b
      (gives (typed.IsIn place type x t in_place y) [])
      (gives (typed.And place type (typed.Is place ty.True x t) (typed.Binary in_place type In x y)) [])
  of_another : (x : TypedExpr)
      → TypesIsInAlike place a t in_place b
      (gives (typed.IsIn place ty.False x t in_place (typed.Skipped b)) [])
      (gives (typed.And place ty.False (typed.Is place ty.False x t) (typed.Skipped (expr.Binary in_place In a b))) [])

-- the two forms are typed alike in an environment, under what is known
abbrev pub IsShort : Declarations → Env → Place → Expr → TypeName → Place → Expr → Capabilities → Type 0
IsShort s env place a t in_place b known =
    TypesIsInAlike place a t in_place b (typing s env (expr.IsIn place a t in_place b) known)
    (typing s env (is_and_in place a t in_place b) known)
