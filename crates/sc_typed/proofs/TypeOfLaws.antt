-- The type of an expression, construct by construct.
use Rattle.std.proofs.Common.{◌≡◌, ℕ, List, Some, None, ap, sym, ◌∙◌}
use Rattle.sc_ast.specs.declared.expr.Expr.{Expr}
use Rattle.sc_ast.specs.declared.expr.TypeName.{TypeName}
use Rattle.sc_ast.specs.declared.expr.Variable.{Variable}
use Rattle.sc_ast.specs.declared.literal.Literal.{Literal}
use Rattle.sc_ast.specs.declared.operator.BinaryOperator.{BinaryOperator}
use Rattle.sc_ast.specs.declared.operator.UnaryOperator.{UnaryOperator}
use Rattle.sc_ast.specs.declared.place.Place.{Place}
use Rattle.sc_pattern.specs.declared.part.Part.{Part}
use Rattle.sc_schema.specs.declared.ty.Ty.{Ty}
use Rattle.sc_typed.specs.declared.typed_expr.HasStep.{HasStep}
use Rattle.sc_typed.specs.declared.typed_expr.TypedExpr.{TypedExpr, TypedExpr-F, out-TypedExpr, roll-TypedExpr, out-roll-TypedExpr}
use Rattle.sc_typed.specs.declared.typed_expr.TypedExpr.TheVariants as typed
use Rattle.sc_typed.specs.declared.typed_expr.TypedExpr.TheVariants.{rolls-If, rolls-Or, rolls-And, rolls-Binary, rolls-Has, rolls-Like, rolls-Is, rolls-IsIn, rolls-Unary, rolls-Access, rolls-Literal, rolls-Variable, rolls-Set, rolls-Record, rolls-Skipped}
use Rattle.sc_typed.specs.declared.typed_expr.TypedExpr.TheOpen as t
use Rattle.sc_typed.specs.TypedExprs.{type_in, type_of}

rolled : (x : TypedExpr) (y : TypedExpr-F TypedExpr) → roll-TypedExpr y ≡ x → type_of x ≡ type_in y
unfolding type_of
rolled x y at = ap (λ z. type_in (out-TypedExpr z)) (sym at) ∙ ap type_in (out-roll-TypedExpr y)

pub type_of_If : (place : Place) (type : Ty) (c a b : TypedExpr) → type_of (typed.If place type c a b) ≡ Some type
type_of_If place type c a b = rolled (typed.If place type c a b) (t.If place type c a b) (rolls-If place type c a b)

pub type_of_Or : (place : Place) (type : Ty) (a b : TypedExpr) → type_of (typed.Or place type a b) ≡ Some type
type_of_Or place type a b = rolled (typed.Or place type a b) (t.Or place type a b) (rolls-Or place type a b)

pub type_of_And : (place : Place) (type : Ty) (a b : TypedExpr) → type_of (typed.And place type a b) ≡ Some type
type_of_And place type a b = rolled (typed.And place type a b) (t.And place type a b) (rolls-And place type a b)

pub type_of_Binary : (place : Place) (type : Ty) (operator : BinaryOperator) (a b : TypedExpr) → type_of (typed.Binary place type operator a b) ≡ Some type
type_of_Binary place type operator a b = rolled (typed.Binary place type operator a b) (t.Binary place type operator a b) (rolls-Binary place type operator a b)

pub type_of_Has : (place : Place) (type : Ty) (a : TypedExpr) (steps : List HasStep) (skipped : List (List ℕ)) → type_of (typed.Has place type a steps skipped) ≡ Some type
type_of_Has place type a steps skipped = rolled (typed.Has place type a steps skipped) (t.Has place type a steps skipped) (rolls-Has place type a steps skipped)

pub type_of_Like : (place : Place) (type : Ty) (a : TypedExpr) (pattern : List Part) → type_of (typed.Like place type a pattern) ≡ Some type
type_of_Like place type a pattern = rolled (typed.Like place type a pattern) (t.Like place type a pattern) (rolls-Like place type a pattern)

pub type_of_Is : (place : Place) (type : Ty) (a : TypedExpr) (n : TypeName) → type_of (typed.Is place type a n) ≡ Some type
type_of_Is place type a n = rolled (typed.Is place type a n) (t.Is place type a n) (rolls-Is place type a n)

pub type_of_IsIn : (place : Place) (type : Ty) (a : TypedExpr) (n : TypeName) (in_place : Place) (b : TypedExpr) → type_of (typed.IsIn place type a n in_place b) ≡ Some type
type_of_IsIn place type a n in_place b = rolled (typed.IsIn place type a n in_place b) (t.IsIn place type a n in_place b) (rolls-IsIn place type a n in_place b)

pub type_of_Unary : (place : Place) (type : Ty) (operator : UnaryOperator) (a : TypedExpr) → type_of (typed.Unary place type operator a) ≡ Some type
type_of_Unary place type operator a = rolled (typed.Unary place type operator a) (t.Unary place type operator a) (rolls-Unary place type operator a)

pub type_of_Access : (place : Place) (type : Ty) (a : TypedExpr) (name : List ℕ) → type_of (typed.Access place type a name) ≡ Some type
type_of_Access place type a name = rolled (typed.Access place type a name) (t.Access place type a name) (rolls-Access place type a name)

pub type_of_Literal : (place : Place) (type : Ty) (l : Literal) → type_of (typed.Literal place type l) ≡ Some type
type_of_Literal place type l = rolled (typed.Literal place type l) (t.Literal place type l) (rolls-Literal place type l)

pub type_of_Variable : (place : Place) (type : Ty) (x : Variable) → type_of (typed.Variable place type x) ≡ Some type
type_of_Variable place type x = rolled (typed.Variable place type x) (t.Variable place type x) (rolls-Variable place type x)

pub type_of_Set : (place : Place) (type : Ty) (members : List TypedExpr) → type_of (typed.Set place type members) ≡ Some type
type_of_Set place type members = rolled (typed.Set place type members) (t.Set place type members) (rolls-Set place type members)

pub type_of_Record : (place : Place) (type : Ty) (fields : List (List ℕ × TypedExpr)) → type_of (typed.Record place type fields) ≡ Some type
type_of_Record place type fields = rolled (typed.Record place type fields) (t.Record place type fields) (rolls-Record place type fields)

pub type_of_Skipped : (x : Expr) → type_of (typed.Skipped x) ≡ None
type_of_Skipped x = rolled (typed.Skipped x) (t.Skipped x) (rolls-Skipped x)
