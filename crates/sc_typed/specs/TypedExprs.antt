-- Expressions with their types: the type and the place of one, and the expression that it was made of.
use Rattle.std.specs.Prelude.{ℕ, List, ◌++◌, map, Option, Some, None}
use Rattle.sc_ast.specs.declared.place.Place.{Place}
use Rattle.sc_ast.specs.declared.expr.Expr.{Expr, Expr-F, out-Expr}
use Rattle.sc_ast.specs.declared.expr.Expr.TheOpen as e
use Rattle.sc_ast.specs.declared.expr.Expr.TheVariants as expr
use Rattle.sc_schema.specs.declared.ty.Ty.{Ty}
use Rattle.sc_typed.specs.declared.typed_expr.HasStep.{HasStep}
use Rattle.sc_typed.specs.declared.typed_expr.TypedExpr.{TypedExpr, TypedExpr-F, out-TypedExpr, fold-TypedExpr}
use Rattle.sc_typed.specs.declared.typed_expr.TypedExpr.TheOpen as t

-- ---- types

abbrev pub type_in : TypedExpr-F TypedExpr → Option Ty
type_in (t.If place type c a b) = Some type
type_in (t.Or place type a b) = Some type
type_in (t.And place type a b) = Some type
type_in (t.Binary place type operator a b) = Some type
type_in (t.Has place type a steps skipped) = Some type
type_in (t.Like place type a pattern) = Some type
type_in (t.Is place type a type_name) = Some type
type_in (t.IsIn place type a type_name in_place b) = Some type
type_in (t.Unary place type operator a) = Some type
type_in (t.Access place type a name) = Some type
type_in (t.Literal place type l) = Some type
type_in (t.Variable place type x) = Some type
type_in (t.Set place type members) = Some type
type_in (t.Record place type fields) = Some type
type_in (t.Skipped x) = None

-- the type of an expression; none where it is skipped
unfoldable pub type_of : TypedExpr → Option Ty
type_of x = type_in (out-TypedExpr x)

-- ---- places

abbrev pub expr_place_in : Expr-F Expr → Place
expr_place_in (e.If place c a b) = place
expr_place_in (e.Or place a b) = place
expr_place_in (e.And place a b) = place
expr_place_in (e.Binary place operator a b) = place
expr_place_in (e.Has place a names) = place
expr_place_in (e.Like place a pattern) = place
expr_place_in (e.Is place a type_name) = place
expr_place_in (e.IsIn place a type_name in_place b) = place
expr_place_in (e.Unary place operator a) = place
expr_place_in (e.Access place a name) = place
expr_place_in (e.Literal place l) = place
expr_place_in (e.Variable place x) = place
expr_place_in (e.Set place members) = place
expr_place_in (e.Record place fields) = place

unfoldable pub expr_place : Expr → Place
expr_place x = expr_place_in (out-Expr x)

abbrev pub place_in : TypedExpr-F TypedExpr → Place
place_in (t.If place type c a b) = place
place_in (t.Or place type a b) = place
place_in (t.And place type a b) = place
place_in (t.Binary place type operator a b) = place
place_in (t.Has place type a steps skipped) = place
place_in (t.Like place type a pattern) = place
place_in (t.Is place type a type_name) = place
place_in (t.IsIn place type a type_name in_place b) = place
place_in (t.Unary place type operator a) = place
place_in (t.Access place type a name) = place
place_in (t.Literal place type l) = place
place_in (t.Variable place type x) = place
place_in (t.Set place type members) = place
place_in (t.Record place type fields) = place
place_in (t.Skipped x) = expr_place x

-- the place of an expression
unfoldable pub place_of : TypedExpr → Place
place_of x = place_in (out-TypedExpr x)

-- ---- without types

abbrev pub names_of : List HasStep → List (List ℕ)
names_of steps = map (λ (s : HasStep). s.name) steps

-- one expression, each expression inside it being seen without types
abbrev pub untyped_step : TypedExpr-F Expr → Expr
untyped_step (t.If place type c a b) = expr.If place c a b
untyped_step (t.Or place type a b) = expr.Or place a b
untyped_step (t.And place type a b) = expr.And place a b
untyped_step (t.Binary place type operator a b) = expr.Binary place operator a b
untyped_step (t.Has place type a steps skipped) = expr.Has place a (names_of steps ++ skipped)
untyped_step (t.Like place type a pattern) = expr.Like place a pattern
untyped_step (t.Is place type a type_name) = expr.Is place a type_name
untyped_step (t.IsIn place type a type_name in_place b) = expr.IsIn place a type_name in_place b
untyped_step (t.Unary place type operator a) = expr.Unary place operator a
untyped_step (t.Access place type a name) = expr.Access place a name
untyped_step (t.Literal place type l) = expr.Literal place l
untyped_step (t.Variable place type x) = expr.Variable place x
untyped_step (t.Set place type members) = expr.Set place members
untyped_step (t.Record place type fields) = expr.Record place fields
untyped_step (t.Skipped x) = x

-- the expression that one with types was made of
unfoldable pub untyped : TypedExpr → Expr
untyped = fold-TypedExpr Expr untyped_step
