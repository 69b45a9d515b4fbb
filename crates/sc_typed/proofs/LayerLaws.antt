-- Whether two expressions are told to be one, layer by layer.
use Rattle.std.proofs.Common.{◌≡◌, ◌&&◌, ℕ, List, Bool, false, nat_eq, refl, ◌∙◌}
use Rattle.std.specs.Cmp.Lexicographic.{pointwise}
use Rattle.sc_ast.specs.declared.expr.Expr.{Expr, Expr-F, out-Expr}
use Rattle.sc_ast.specs.declared.expr.Expr.TheOpen as e
use Rattle.sc_ast.specs.contracts.expr.ExprPartialEq.TheImpl.{ghosts as exprs}
use Rattle.sc_ast.specs.contracts.expr.ExprPartialEq.TheImpl.Laws as laws
use Rattle.sc_ast.specs.contracts.expr.VariablePartialEq.TheImpl.{ghosts as variables}
use Rattle.sc_ast.specs.contracts.expr.TypeNamePartialEq.TheImpl.{ghosts as type_names}
use Rattle.sc_ast.specs.contracts.literal.LiteralPartialEq.TheImpl.{ghosts as literals}
use Rattle.sc_ast.specs.contracts.operator.UnaryOperatorPartialEq.TheImpl.{ghosts as unaries}
use Rattle.sc_ast.specs.contracts.operator.BinaryOperatorPartialEq.TheImpl.{ghosts as binaries}
use Rattle.sc_ast.specs.contracts.place.PlacePartialEq.TheImpl.{ghosts as places}
use Rattle.sc_pattern.specs.contracts.pattern.PatternPartialEq.TheImpl.{ghosts as patterns}

abbrev pub texts : List ℕ → List ℕ → Bool
texts = pointwise nat_eq

abbrev pub alike : Expr-F Expr → Expr-F Expr → Bool
alike (e.If p c a b) (e.If q d f g) = places.eq p q && (exprs.eq c d && (exprs.eq a f && exprs.eq b g))
alike (e.Or p a b) (e.Or q f g) = places.eq p q && (exprs.eq a f && exprs.eq b g)
alike (e.And p a b) (e.And q f g) = places.eq p q && (exprs.eq a f && exprs.eq b g)
alike (e.Binary p o a b) (e.Binary q n f g) = places.eq p q && (binaries.eq o n && (exprs.eq a f && exprs.eq b g))
alike (e.Has p a ns) (e.Has q f ms) = places.eq p q && (exprs.eq a f && pointwise texts ns ms)
alike (e.Like p a s) (e.Like q f t) = places.eq p q && (exprs.eq a f && patterns.eq s t)
alike (e.Is p a s) (e.Is q f t) = places.eq p q && (exprs.eq a f && type_names.eq s t)
alike (e.IsIn p a s i b) (e.IsIn q f t j g) = places.eq p q && (exprs.eq a f && (type_names.eq s t && (places.eq i j && exprs.eq b g)))
alike (e.Unary p o a) (e.Unary q n f) = places.eq p q && (unaries.eq o n && exprs.eq a f)
alike (e.Access p a s) (e.Access q f t) = places.eq p q && (exprs.eq a f && texts s t)
alike (e.Literal p l) (e.Literal q m) = places.eq p q && literals.eq l m
alike (e.Variable p x) (e.Variable q y) = places.eq p q && variables.eq x y
alike (e.Set p xs) (e.Set q ys) = places.eq p q && pointwise exprs.eq xs ys
alike (e.Record p xs) (e.Record q ys) = places.eq p q && pointwise (λ (f g : List ℕ × Expr). texts f.0 g.0 && exprs.eq f.1 g.1) xs ys
alike _ _ = false

layered : (a b : Expr) (x y : Expr-F Expr) → out-Expr a ≡ x → out-Expr b ≡ y → laws.unfolded a b ≡ alike x y
layered a b (e.If p c d f) (e.If q g h i) at to = rw (at, to) refl
layered a b (e.If p c d f) _ at to = rw (at, to) refl
layered a b (e.Or p d f) (e.Or q h i) at to = rw (at, to) refl
layered a b (e.Or p d f) _ at to = rw (at, to) refl
layered a b (e.And p d f) (e.And q h i) at to = rw (at, to) refl
layered a b (e.And p d f) _ at to = rw (at, to) refl
layered a b (e.Binary p o d f) (e.Binary q n h i) at to = rw (at, to) refl
layered a b (e.Binary p o d f) _ at to = rw (at, to) refl
layered a b (e.Has p d f) (e.Has q h i) at to = rw (at, to) refl
layered a b (e.Has p d f) _ at to = rw (at, to) refl
layered a b (e.Like p d f) (e.Like q h i) at to = rw (at, to) refl
layered a b (e.Like p d f) _ at to = rw (at, to) refl
layered a b (e.Is p d f) (e.Is q h i) at to = rw (at, to) refl
layered a b (e.Is p d f) _ at to = rw (at, to) refl
layered a b (e.IsIn p d f o k) (e.IsIn q h i n j) at to = rw (at, to) refl
layered a b (e.IsIn p d f o k) _ at to = rw (at, to) refl
layered a b (e.Unary p d f) (e.Unary q h i) at to = rw (at, to) refl
layered a b (e.Unary p d f) _ at to = rw (at, to) refl
layered a b (e.Access p d f) (e.Access q h i) at to = rw (at, to) refl
layered a b (e.Access p d f) _ at to = rw (at, to) refl
layered a b (e.Literal p d) (e.Literal q h) at to = rw (at, to) refl
layered a b (e.Literal p d) _ at to = rw (at, to) refl
layered a b (e.Variable p d) (e.Variable q h) at to = rw (at, to) refl
layered a b (e.Variable p d) _ at to = rw (at, to) refl
layered a b (e.Set p d) (e.Set q h) at to = rw (at, to) refl
layered a b (e.Set p d) _ at to = rw (at, to) refl
layered a b (e.Record p d) (e.Record q h) at to = rw (at, to) refl
layered a b (e.Record p d) _ at to = rw (at, to) refl

pub told_by_layers : (a b : Expr) → exprs.eq a b ≡ alike (out-Expr a) (out-Expr b)
told_by_layers a b = laws.is a b ∙ layered a b (out-Expr a) (out-Expr b) refl refl
