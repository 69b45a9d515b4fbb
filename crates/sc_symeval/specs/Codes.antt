-- What an expression with types is compiled to in an environment of a schema: a term that is true where the
-- expression doesn't err, and one that is its value there.
use Rattle.std.specs.Prelude.{ℕ, List, map, Bool, true, false, if◌then◌else◌, Option, Some, None, option_map}
use Rattle.std.specs.Option.{option_and_then}
use Rattle.std.specs.Str.{bytes_eq}
use Rattle.sc_ast.specs.declared.expr.TypeName.{TypeName}
use Rattle.sc_ast.specs.declared.literal.Literal.{Literal}
use Rattle.sc_ast.specs.declared.literal.Literal.TheVariants as written
use Rattle.sc_ast.specs.declared.operator.BinaryOperator.{BinaryOperator}
use Rattle.sc_ast.specs.declared.operator.BinaryOperator.TheVariants.{Less, LessOrEqual, Greater, GreaterOrEqual, Equal, In, Add, Subtract, Multiply, Contains, ContainsAll, ContainsAny, HasTag, GetTag, LessThan, LessThanOrEqual, GreaterThan, GreaterThanOrEqual, IsInRange}
use Rattle.sc_ast.specs.declared.operator.UnaryOperator.{UnaryOperator}
use Rattle.sc_ast.specs.declared.operator.UnaryOperator.TheVariants.{Not, Negate, IsEmpty, IsIpv4, IsIpv6, IsLoopback, IsMulticast, Decimal, Ip}
use Rattle.sc_decimal.specs.DecimalValue.{decimal_of}
use Rattle.sc_ip.specs.IpValue.{ip_of}
use Rattle.sc_schema.specs.declared.declarations.Env.{Env}
use Rattle.sc_schema.specs.declared.ty.Ty.{Ty}
use Rattle.sc_schema.specs.Declarations.{Declarations}
use Rattle.sc_typed.specs.declared.typed_expr.TypedExpr.{TypedExpr, TypedExpr-F, out-TypedExpr, roll-TypedExpr, map-TypedExpr, fold-TypedExpr}
use Rattle.sc_typed.specs.declared.typed_expr.TypedExpr.TheOpen as t
use Rattle.sc_typed.specs.Outcomes.{ty}
use Rattle.sc_typed.specs.Types.{is_true, is_false, entity_name}
use Rattle.sc_sorts.specs.declared.node.Literal.{Literal as Constant}
use Rattle.sc_sorts.specs.declared.node.Literal.TheVariants as constants
use Rattle.sc_constructs.specs.Code.{Code, always, constant, choice_code, branch_code, or_code, and_code, not_code, less_code, less_or_equal_code, greater_code, greater_or_equal_code, sum_code, difference_code, product_code, negative_code, equal_code, contains_code, contains_all_code, contains_any_code, is_empty_code, is_version_4_code, is_version_6_code, in_range_code, is_loopback_code, is_multicast_code, like_code, spelled_code, is_code, set_code, record_code}
use Rattle.sc_constructs.specs.Objects.{access_code, path_code, tag_type, has_tag_code, get_tag_code, in_code, written_term, variable_term}

-- an expression, and what it is compiled to
pub record Part : Type 0 where
  pub expr : TypedExpr
  pub code : Code

-- ---- `if`, `||`, `&&`: what typing skips isn't compiled

abbrev pub of_choice : Part → Part → Part → Code
of_choice c a b =
    if is_true (ty c.expr) then branch_code c.code a.code
    else (if is_false (ty c.expr) then branch_code c.code b.code
    else choice_code c.code a.code b.code)

abbrev pub of_either : Part → Part → Code
of_either a b = if is_true (ty a.expr) then a.code else or_code a.code b.code

abbrev pub of_both : Part → Part → Code
of_both a b = if is_false (ty a.expr) then a.code else and_code a.code b.code

-- ---- operators

-- an operator whose result is of a type, of two operands with their types and of what they are compiled to
abbrev pub binary_code : Declarations → BinaryOperator → Ty → TypedExpr → TypedExpr → Code → Code → Code
binary_code s Less type x y a b = less_code a b
binary_code s LessOrEqual type x y a b = less_or_equal_code a b
binary_code s Greater type x y a b = greater_code a b
binary_code s GreaterOrEqual type x y a b = greater_or_equal_code a b
binary_code s Equal type x y a b = equal_code a b
binary_code s In type x y a b = in_code s type x y a b
binary_code s Add type x y a b = sum_code a b
binary_code s Subtract type x y a b = difference_code a b
binary_code s Multiply type x y a b = product_code a b
binary_code s Contains type x y a b = contains_code a b
binary_code s ContainsAll type x y a b = contains_all_code a b
binary_code s ContainsAny type x y a b = contains_any_code a b
binary_code s HasTag type x y a b = has_tag_code (tag_type s (ty x)) a b
binary_code s GetTag type x y a b = get_tag_code (tag_type s (ty x)) a b
binary_code s LessThan type x y a b = less_code a b
binary_code s LessThanOrEqual type x y a b = less_or_equal_code a b
binary_code s GreaterThan type x y a b = greater_code a b
binary_code s GreaterThanOrEqual type x y a b = greater_or_equal_code a b
binary_code s IsInRange type x y a b = in_range_code a b

-- the text that an expression is
abbrev pub text_at : TypedExpr-F TypedExpr → Option (List ℕ)
text_at (t.Literal place type (written.String text)) = Some text
text_at x = None

-- what the text that an expression is spells
abbrev pub spelled : {A : Type 0} → (A → Constant) → (List ℕ → Option A) → TypedExpr → Option Constant
spelled kind read x = option_map kind (option_and_then read (text_at (out-TypedExpr x)))

abbrev pub unary_code : UnaryOperator → TypedExpr → Code → Code
unary_code Not x a = not_code a
unary_code Negate x a = negative_code a
unary_code IsEmpty x a = is_empty_code a
unary_code IsIpv4 x a = is_version_4_code a
unary_code IsIpv6 x a = is_version_6_code a
unary_code IsLoopback x a = is_loopback_code a
unary_code IsMulticast x a = is_multicast_code a
unary_code Decimal x a = spelled_code (spelled constants.Decimal decimal_of x)
unary_code Ip x a = spelled_code (spelled constants.Ip ip_of x)

-- ---- `is`

abbrev pub is_of_type : List ℕ → Option (List ℕ) → Bool
is_of_type n (Some name) = bytes_eq name n
is_of_type n None = false

-- an entity is of the type
abbrev pub is_named : TypeName → TypedExpr → Bool
is_named n x = is_of_type n.name (entity_name (ty x))

-- `a is T && a in b`
abbrev pub among_code : Declarations → Ty → TypedExpr → TypedExpr → Code → Code → Code
among_code s type x y a b = and_code (is_code true a) (in_code s type x y a b)

-- `a is T in b` is that, and `a is T` alone where a isn't of the type
abbrev pub is_in_code : Declarations → Ty → TypeName → TypedExpr → TypedExpr → Code → Code → Code
is_in_code s type n x y a b = if is_named n x then among_code s type x y a b else is_code false a

-- ---- all expressions

-- one expression, each expression inside it being seen with what it is compiled to
abbrev pub code_step : Declarations → Env → TypedExpr-F Part → Code
code_step s env (t.If place type c a b) = of_choice c a b
code_step s env (t.Or place type a b) = of_either a b
code_step s env (t.And place type a b) = of_both a b
code_step s env (t.Binary place type operator a b) = binary_code s operator type a.expr b.expr a.code b.code
code_step s env (t.Has place type a steps skipped) = path_code s a.code steps
code_step s env (t.Like place type a pattern) = like_code pattern a.code
code_step s env (t.Is place type a n) = is_code (is_true type) a.code
code_step s env (t.IsIn place type a n in_place b) = is_in_code s type n a.expr b.expr a.code b.code
code_step s env (t.Unary place type operator a) = unary_code operator a.expr a.code
code_step s env (t.Access place type a name) = access_code s (ty a.expr) name a.code
code_step s env (t.Literal place type l) = always (written_term s l)
code_step s env (t.Variable place type x) = always (variable_term s env x)
code_step s env (t.Set place type members) = set_code (map (λ (a : Part). a.code) members)
code_step s env (t.Record place type fields) = record_code (map (λ (f : List ℕ × Part). (f.0, f.1.code)) fields)
code_step s env (t.Skipped x) = constant false

abbrev pub whole : TypedExpr-F Part → TypedExpr
whole layer = roll-TypedExpr (map-TypedExpr Part TypedExpr (λ a. a.expr) layer)

abbrev pub part_step : Declarations → Env → TypedExpr-F Part → Part
part_step s env layer = record { expr = whole layer; code = code_step s env layer }

unfoldable pub part : Declarations → Env → TypedExpr → Part
part s env = fold-TypedExpr Part (part_step s env)

-- what an expression is compiled to
abbrev pub code_of : Declarations → Env → TypedExpr → Code
code_of s env x = (part s env x).code
