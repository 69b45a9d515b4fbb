-- Expressions without types, construct by construct.
use Rattle.std.proofs.Common.{◌≡◌, ℕ, List, ◌++◌, map, ap, sym, ◌∙◌}
use Rattle.sc_ast.specs.declared.expr.Expr.{Expr}
use Rattle.sc_ast.specs.declared.expr.Expr.TheVariants as expr
use Rattle.sc_ast.specs.declared.expr.TypeName.{TypeName}
use Rattle.sc_ast.specs.declared.expr.Variable.{Variable}
use Rattle.sc_ast.specs.declared.literal.Literal.{Literal}
use Rattle.sc_ast.specs.declared.operator.BinaryOperator.{BinaryOperator}
use Rattle.sc_ast.specs.declared.operator.UnaryOperator.{UnaryOperator}
use Rattle.sc_ast.specs.declared.place.Place.{Place}
use Rattle.sc_pattern.specs.declared.part.Part.{Part}
use Rattle.sc_schema.specs.declared.ty.Ty.{Ty}
use Rattle.sc_typed.specs.declared.typed_expr.HasStep.{HasStep}
use Rattle.sc_typed.specs.declared.typed_expr.TypedExpr.{TypedExpr, fold-roll-TypedExpr}
use Rattle.sc_typed.specs.declared.typed_expr.TypedExpr.TheVariants as typed
use Rattle.sc_typed.specs.declared.typed_expr.TypedExpr.TheVariants.{rolls-If, rolls-Or, rolls-And, rolls-Binary, rolls-Has, rolls-Like, rolls-Is, rolls-IsIn, rolls-Unary, rolls-Access, rolls-Literal, rolls-Variable, rolls-Set, rolls-Record, rolls-Skipped}
use Rattle.sc_typed.specs.declared.typed_expr.TypedExpr.TheOpen as t
use Rattle.sc_typed.specs.TypedExprs.{names_of, untyped_step, untyped}

pub untyped_If : (place : Place) (type : Ty) (c a b : TypedExpr) → untyped (typed.If place type c a b) ≡ expr.If place (untyped c) (untyped a) (untyped b)
unfolding untyped
untyped_If place type c a b = ap untyped (sym (rolls-If place type c a b)) ∙ fold-roll-TypedExpr Expr untyped_step (t.If place type c a b)

pub untyped_Or : (place : Place) (type : Ty) (a b : TypedExpr) → untyped (typed.Or place type a b) ≡ expr.Or place (untyped a) (untyped b)
unfolding untyped
untyped_Or place type a b = ap untyped (sym (rolls-Or place type a b)) ∙ fold-roll-TypedExpr Expr untyped_step (t.Or place type a b)

pub untyped_And : (place : Place) (type : Ty) (a b : TypedExpr) → untyped (typed.And place type a b) ≡ expr.And place (untyped a) (untyped b)
unfolding untyped
untyped_And place type a b = ap untyped (sym (rolls-And place type a b)) ∙ fold-roll-TypedExpr Expr untyped_step (t.And place type a b)

pub untyped_Binary : (place : Place) (type : Ty) (operator : BinaryOperator) (a b : TypedExpr) → untyped (typed.Binary place type operator a b) ≡ expr.Binary place operator (untyped a) (untyped b)
unfolding untyped
untyped_Binary place type operator a b = ap untyped (sym (rolls-Binary place type operator a b)) ∙ fold-roll-TypedExpr Expr untyped_step (t.Binary place type operator a b)

pub untyped_Has : (place : Place) (type : Ty) (a : TypedExpr) (steps : List HasStep) (skipped : List (List ℕ)) → untyped (typed.Has place type a steps skipped) ≡ expr.Has place (untyped a) (names_of steps ++ skipped)
unfolding untyped
untyped_Has place type a steps skipped = ap untyped (sym (rolls-Has place type a steps skipped)) ∙ fold-roll-TypedExpr Expr untyped_step (t.Has place type a steps skipped)

pub untyped_Like : (place : Place) (type : Ty) (a : TypedExpr) (pattern : List Part) → untyped (typed.Like place type a pattern) ≡ expr.Like place (untyped a) pattern
unfolding untyped
untyped_Like place type a pattern = ap untyped (sym (rolls-Like place type a pattern)) ∙ fold-roll-TypedExpr Expr untyped_step (t.Like place type a pattern)

pub untyped_Is : (place : Place) (type : Ty) (a : TypedExpr) (n : TypeName) → untyped (typed.Is place type a n) ≡ expr.Is place (untyped a) n
unfolding untyped
untyped_Is place type a n = ap untyped (sym (rolls-Is place type a n)) ∙ fold-roll-TypedExpr Expr untyped_step (t.Is place type a n)

pub untyped_IsIn : (place : Place) (type : Ty) (a : TypedExpr) (n : TypeName) (in_place : Place) (b : TypedExpr) → untyped (typed.IsIn place type a n in_place b) ≡ expr.IsIn place (untyped a) n in_place (untyped b)
unfolding untyped
untyped_IsIn place type a n in_place b = ap untyped (sym (rolls-IsIn place type a n in_place b)) ∙ fold-roll-TypedExpr Expr untyped_step (t.IsIn place type a n in_place b)

pub untyped_Unary : (place : Place) (type : Ty) (operator : UnaryOperator) (a : TypedExpr) → untyped (typed.Unary place type operator a) ≡ expr.Unary place operator (untyped a)
unfolding untyped
untyped_Unary place type operator a = ap untyped (sym (rolls-Unary place type operator a)) ∙ fold-roll-TypedExpr Expr untyped_step (t.Unary place type operator a)

pub untyped_Access : (place : Place) (type : Ty) (a : TypedExpr) (name : List ℕ) → untyped (typed.Access place type a name) ≡ expr.Access place (untyped a) name
unfolding untyped
untyped_Access place type a name = ap untyped (sym (rolls-Access place type a name)) ∙ fold-roll-TypedExpr Expr untyped_step (t.Access place type a name)

pub untyped_Literal : (place : Place) (type : Ty) (l : Literal) → untyped (typed.Literal place type l) ≡ expr.Literal place l
unfolding untyped
untyped_Literal place type l = ap untyped (sym (rolls-Literal place type l)) ∙ fold-roll-TypedExpr Expr untyped_step (t.Literal place type l)

pub untyped_Variable : (place : Place) (type : Ty) (x : Variable) → untyped (typed.Variable place type x) ≡ expr.Variable place x
unfolding untyped
untyped_Variable place type x = ap untyped (sym (rolls-Variable place type x)) ∙ fold-roll-TypedExpr Expr untyped_step (t.Variable place type x)

pub untyped_Set : (place : Place) (type : Ty) (members : List TypedExpr) → untyped (typed.Set place type members) ≡ expr.Set place (map untyped members)
unfolding untyped
untyped_Set place type members = ap untyped (sym (rolls-Set place type members)) ∙ fold-roll-TypedExpr Expr untyped_step (t.Set place type members)

pub untyped_Record : (place : Place) (type : Ty) (fields : List (List ℕ × TypedExpr)) → untyped (typed.Record place type fields) ≡ expr.Record place (map (λ (f : List ℕ × TypedExpr). (f.0, untyped f.1)) fields)
unfolding untyped
untyped_Record place type fields = ap untyped (sym (rolls-Record place type fields)) ∙ fold-roll-TypedExpr Expr untyped_step (t.Record place type fields)

pub untyped_Skipped : (x : Expr) → untyped (typed.Skipped x) ≡ x
unfolding untyped
untyped_Skipped x = ap untyped (sym (rolls-Skipped x)) ∙ fold-roll-TypedExpr Expr untyped_step (t.Skipped x)
