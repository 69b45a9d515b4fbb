-- Capabilities: that an object has an attribute, or an entity a tag. Their expressions stand in them without places, so
-- that two that are written alike are one.
use Rattle.std.specs.Prelude.{ℕ, List, Bool}
use Rattle.std.specs.List.{list_any, filter}
use Rattle.sc_ast.specs.declared.place.Place.{Place}
use Rattle.sc_ast.specs.declared.expr.Expr.{Expr, Expr-F, fold-Expr}
use Rattle.sc_ast.specs.declared.expr.Expr.TheOpen as e
use Rattle.sc_ast.specs.declared.expr.Expr.TheVariants as expr
use Rattle.sc_ast.specs.declared.expr.TypeName.{TypeName}
use Rattle.sc_typed.specs.declared.capability.Capability.{Capability}
use Rattle.sc_typed.specs.declared.capability.Key.TheVariants.{Attribute, Tag}
use Rattle.sc_typed.specs.contracts.capability.CapabilityPartialEq.TheImpl as equality

-- ---- expressions without places

abbrev pub nowhere : Place
nowhere = record { offset = 0 }

abbrev pub bare_name : TypeName → TypeName
bare_name t = record { place = nowhere; name = t.name }

-- one expression, each expression inside it having no places
abbrev pub bare_step : Expr-F Expr → Expr
bare_step (e.If place c a b) = expr.If nowhere c a b
bare_step (e.Or place a b) = expr.Or nowhere a b
bare_step (e.And place a b) = expr.And nowhere a b
bare_step (e.Binary place operator a b) = expr.Binary nowhere operator a b
bare_step (e.Has place a names) = expr.Has nowhere a names
bare_step (e.Like place a pattern) = expr.Like nowhere a pattern
bare_step (e.Is place a type_name) = expr.Is nowhere a (bare_name type_name)
bare_step (e.IsIn place a type_name in_place b) = expr.IsIn nowhere a (bare_name type_name) nowhere b
bare_step (e.Unary place operator a) = expr.Unary nowhere operator a
bare_step (e.Access place a name) = expr.Access nowhere a name
bare_step (e.Literal place l) = expr.Literal nowhere l
bare_step (e.Variable place x) = expr.Variable nowhere x
bare_step (e.Set place members) = expr.Set nowhere members
bare_step (e.Record place fields) = expr.Record nowhere fields

-- the expression with 0 for each place
unfoldable pub bare : Expr → Expr
bare = fold-Expr Expr bare_step

-- ---- capabilities

abbrev pub Capabilities : Type 0
Capabilities = List Capability

-- a has the attribute
abbrev pub attribute_of : Expr → List ℕ → Capability
attribute_of a name = record { object = bare a; key = Attribute name }

-- a has the tag of the key k
abbrev pub tag_of : Expr → Expr → Capability
tag_of a k = record { object = bare a; key = Tag (bare k) }

-- two capabilities are one
unfoldable pub same : Capability → Capability → Bool
same = equality.ghosts.eq

unfoldable pub is_known : Capabilities → Capability → Bool
is_known known c = list_any (same c) known

-- those of the first that are among the second ones
abbrev pub common : Capabilities → Capabilities → Capabilities
common a b = filter (is_known b) a
