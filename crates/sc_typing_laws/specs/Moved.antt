-- Expressions, and what typing gives of them, with each place moved.
use Rattle.std.specs.Prelude.{Result, Ok, Err}
use Rattle.sc_ast.specs.declared.expr.Expr.{Expr, Expr-F, roll-Expr, fold-Expr}
use Rattle.sc_ast.specs.declared.expr.Expr.TheOpen as e
use Rattle.sc_ast.specs.declared.expr.TypeName.{TypeName}
use Rattle.sc_ast.specs.declared.place.Place.{Place}
use Rattle.sc_typed.specs.declared.fault.TypeFault.{TypeFault}
use Rattle.sc_typed.specs.declared.outcome.Typed.{Typed}
use Rattle.sc_typed.specs.declared.typed_expr.TypedExpr.{TypedExpr, TypedExpr-F, roll-TypedExpr, fold-TypedExpr}
use Rattle.sc_typed.specs.declared.typed_expr.TypedExpr.TheOpen as t
use Rattle.sc_typed.specs.Capabilities.{nowhere}
use Rattle.sc_typed.specs.Outcomes.{Outcome}

abbrev pub name_moved : (Place → Place) → TypeName → TypeName
name_moved move n = record { place = move n.place; name = n.name }

-- an expression with its places moved, but for those of the expressions inside it
abbrev pub layer_moved : {X : Type 0} → (Place → Place) → Expr-F X → Expr-F X
layer_moved move (e.If p c a b) = e.If (move p) c a b
layer_moved move (e.Or p a b) = e.Or (move p) a b
layer_moved move (e.And p a b) = e.And (move p) a b
layer_moved move (e.Binary p o a b) = e.Binary (move p) o a b
layer_moved move (e.Has p a names) = e.Has (move p) a names
layer_moved move (e.Like p a pattern) = e.Like (move p) a pattern
layer_moved move (e.Is p a n) = e.Is (move p) a (name_moved move n)
layer_moved move (e.IsIn p a n q b) = e.IsIn (move p) a (name_moved move n) (move q) b
layer_moved move (e.Unary p o a) = e.Unary (move p) o a
layer_moved move (e.Access p a name) = e.Access (move p) a name
layer_moved move (e.Literal p l) = e.Literal (move p) l
layer_moved move (e.Variable p v) = e.Variable (move p) v
layer_moved move (e.Set p members) = e.Set (move p) members
layer_moved move (e.Record p fields) = e.Record (move p) fields

-- an expression with each place moved
unfoldable pub moved : (Place → Place) → Expr → Expr
moved move = fold-Expr Expr (λ y. roll-Expr (layer_moved move y))

abbrev pub typed_layer_moved : {X : Type 0} → (Place → Place) → TypedExpr-F X → TypedExpr-F X
typed_layer_moved move (t.If p type c a b) = t.If (move p) type c a b
typed_layer_moved move (t.Or p type a b) = t.Or (move p) type a b
typed_layer_moved move (t.And p type a b) = t.And (move p) type a b
typed_layer_moved move (t.Binary p type o a b) = t.Binary (move p) type o a b
typed_layer_moved move (t.Has p type a steps skipped) = t.Has (move p) type a steps skipped
typed_layer_moved move (t.Like p type a pattern) = t.Like (move p) type a pattern
typed_layer_moved move (t.Is p type a n) = t.Is (move p) type a (name_moved move n)
typed_layer_moved move (t.IsIn p type a n q b) = t.IsIn (move p) type a (name_moved move n) (move q) b
typed_layer_moved move (t.Unary p type o a) = t.Unary (move p) type o a
typed_layer_moved move (t.Access p type a name) = t.Access (move p) type a name
typed_layer_moved move (t.Literal p type l) = t.Literal (move p) type l
typed_layer_moved move (t.Variable p type v) = t.Variable (move p) type v
typed_layer_moved move (t.Set p type members) = t.Set (move p) type members
typed_layer_moved move (t.Record p type fields) = t.Record (move p) type fields
typed_layer_moved move (t.Skipped x) = t.Skipped (moved move x)

-- a typed expression with each place moved
unfoldable pub typed_moved : (Place → Place) → TypedExpr → TypedExpr
typed_moved move = fold-TypedExpr TypedExpr (λ y. roll-TypedExpr (typed_layer_moved move y))

-- what is given has no places
abbrev pub given_moved : (Place → Place) → Typed → Typed
given_moved move u = record { expr = typed_moved move u.expr; given = u.given }

-- the same rule, at the place moved
abbrev pub fault_moved : (Place → Place) → TypeFault → TypeFault
fault_moved move fault = record { rule = fault.rule; at = move fault.at }

abbrev pub result_moved : {A B : Type 0} → (Place → Place) → (A → B) → Result A TypeFault → Result B TypeFault
result_moved move f (Ok x) = Ok (f x)
result_moved move f (Err fault) = Err (fault_moved move fault)

-- what typing gives, with each place moved
abbrev pub outcome_moved : (Place → Place) → Outcome → Outcome
outcome_moved move o = result_moved move (given_moved move) o

-- what typing gives, but for places
abbrev pub without_places : Outcome → Outcome
without_places o = outcome_moved (λ p. nowhere) o
