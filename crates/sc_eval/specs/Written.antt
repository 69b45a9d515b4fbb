-- What an expression writes: the expressions that `has` with several names is short for, and constants.
use Rattle.std.specs.Prelude.{ℕ, List, [], ◌∷◌, ◌++◌}
use Rattle.std.specs.List.{AllByRecursion, flat_map}
use Rattle.std.specs.Str.{IsUtf8}
use Rattle.sc_ast.specs.Conditions.{condition}
use Rattle.sc_ast.specs.declared.policy.Policy.{Policy}
use Rattle.sc_ast.specs.declared.expr.Expr.{Expr, Expr-F, fold-Expr}
use Rattle.sc_ast.specs.declared.expr.Expr.TheOpen as e
use Rattle.sc_ast.specs.declared.expr.Expr.TheVariants as expr
use Rattle.sc_ast.specs.declared.literal.EntityLiteral.{EntityLiteral}
use Rattle.sc_ast.specs.declared.place.Place.{Place}
use Rattle.sc_values.specs.declared.value.Value.{Value}
use Rattle.sc_values.specs.declared.value.Value.TheVariants as value
use Rattle.sc_values.specs.Proper.{IsProper, IsUidText}
use Rattle.sc_eval.specs.Operators.{literal_value}

-- `front && x has b && x.b has c`
abbrev pub and_has : Place → Expr → Expr → List (List ℕ) → Expr
and_has place front x [] = front
and_has place front x (name ∷ names) =
    and_has place (expr.And place front (expr.Has place x (name ∷ []))) (expr.Access place x name) names

-- `x has a && x.a has b && x.a.b has c`
abbrev pub has_each : Place → Expr → List ℕ → List (List ℕ) → Expr
has_each place x name names = and_has place (expr.Has place x (name ∷ [])) (expr.Access place x name) names

-- ---- constants

-- those of one expression, each expression inside it being seen as its own
abbrev pub constants_step : Expr-F (List Value) → List Value
constants_step (e.If place c a b) = c ++ (a ++ b)
constants_step (e.Or place a b) = a ++ b
constants_step (e.And place a b) = a ++ b
constants_step (e.Binary place operator a b) = a ++ b
constants_step (e.Has place a names) = a
constants_step (e.Like place a pattern) = a
constants_step (e.Is place a type_name) = a
constants_step (e.IsIn place a type_name in_place b) = a ++ b
constants_step (e.Unary place operator a) = a
constants_step (e.Access place a name) = a
constants_step (e.Literal place l) = literal_value l ∷ []
constants_step (e.Variable place x) = []
constants_step (e.Set place members) = flat_map (λ (m : List Value). m) members
constants_step (e.Record place fields) = flat_map (λ (f : List ℕ × List Value). value.String f.0 ∷ f.1) fields

-- the values of literals, and the names of fields as texts
unfoldable pub constants : Expr → List Value
constants = fold-Expr (List Value) constants_step

-- numbers are in range, and texts of scalar values, as they are by their types
abbrev pub HasProperConstants : Expr → Type 0
HasProperConstants x = AllByRecursion IsProper (constants x)

-- the same of each policy
abbrev pub HaveProperConstants : List Policy → Type 0
HaveProperConstants ps = AllByRecursion (λ p. HasProperConstants (condition p)) ps

-- a policy with such a condition
unfoldable pub IsProperPolicy : Policy → Type 0
IsProperPolicy p = HasProperConstants (condition p)

-- a field's name is of scalar values
unfoldable pub HasTextName : List ℕ × Expr → Type 0
HasTextName f = IsUtf8 f.0

-- so is a uid that a scope writes
unfoldable pub HasTextUid : EntityLiteral → Type 0
HasTextUid l = IsUidText l.uid
