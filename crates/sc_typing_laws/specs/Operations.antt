-- The types of operators, one row for each kind of operator: what typing asks of the operands, and the type of the
-- result.
use Rattle.std.specs.Prelude.{◌≡◌, ◌&&◌, ℕ, List, Bool, true, false, Some, None, is_some}
use Rattle.std.specs.Str.{bytes_eq}
use Rattle.sc_ast.specs.declared.expr.Expr.{Expr}
use Rattle.sc_ast.specs.declared.literal.Literal.{Literal}
use Rattle.sc_ast.specs.declared.operator.BinaryOperator.{BinaryOperator}
use Rattle.sc_ast.specs.declared.operator.BinaryOperator.TheVariants.{Less, LessOrEqual, Greater, GreaterOrEqual, Equal, Add, Subtract, Multiply, Contains, ContainsAll, ContainsAny, HasTag, GetTag, LessThan, LessThanOrEqual, GreaterThan, GreaterThanOrEqual, IsInRange}
use Rattle.sc_ast.specs.declared.operator.UnaryOperator.{UnaryOperator}
use Rattle.sc_ast.specs.declared.operator.UnaryOperator.TheVariants.{Not, Negate, IsEmpty, IsIpv4, IsIpv6, IsLoopback, IsMulticast, Decimal, Ip}
use Rattle.sc_decimal.specs.DecimalValue.{decimal_of}
use Rattle.sc_ip.specs.declared.ip.Ip.{Ip as Address}
use Rattle.sc_ip.specs.IpValue.{ip_of}
use Rattle.sc_schema.specs.declared.ty.Ty.{Ty}
use Rattle.sc_schema.specs.declared.ty.Ty.TheVariants as types
use Rattle.sc_schema.specs.Declarations.{Declarations, tags_of}
use Rattle.sc_typed.specs.declared.typed_expr.TypedExpr.{TypedExpr}
use Rattle.sc_typed.specs.Types.{is_boolean, is_long, is_string, is_decimal, is_ip, entity_name, member, truth, join}
use Rattle.sc_typed.specs.Capabilities.{Capabilities, tag_of, is_known}
use Rattle.sc_typed.specs.Literals.{literal_of, text_of, same_literal}
use Rattle.sc_typed.specs.Outcomes.{ty}
use Rattle.sc_typing_rules.specs.Operators.{negated, has_tag}

pub data IsComparison : BinaryOperator → Type 0 where
  less : IsComparison Less
  less_or_equal : IsComparison LessOrEqual
  greater : IsComparison Greater
  greater_or_equal : IsComparison GreaterOrEqual

pub data IsArithmetic : BinaryOperator → Type 0 where
  addition : IsArithmetic Add
  subtraction : IsArithmetic Subtract
  multiplication : IsArithmetic Multiply

pub data IsSetTest : BinaryOperator → Type 0 where
  all : IsSetTest ContainsAll
  any : IsSetTest ContainsAny

pub data IsDecimalComparison : BinaryOperator → Type 0 where
  decimal_less : IsDecimalComparison LessThan
  decimal_less_or_equal : IsDecimalComparison LessThanOrEqual
  decimal_greater : IsDecimalComparison GreaterThan
  decimal_greater_or_equal : IsDecimalComparison GreaterThanOrEqual

-- two literals are compared by value alone
abbrev pub are_literals : Expr → Expr → Bool
are_literals a b = is_some (literal_of a) && is_some (literal_of b)

-- an operator other than `in` has a type, of two operands a and b, which are typed as x and y
pub data IsOperation (s : Declarations) (known : Capabilities) (a b : Expr) (x y : TypedExpr) : BinaryOperator → Ty
    → Type 0 where
  of_comparison : (o : BinaryOperator) → IsComparison o → is_long (ty x) ≡ true → is_long (ty y) ≡ true
      → IsOperation s known a b x y o types.Bool
  of_arithmetic : (o : BinaryOperator) → IsArithmetic o → is_long (ty x) ≡ true → is_long (ty y) ≡ true
      → IsOperation s known a b x y o types.Long
  -- two literals are compared by value, also of two kinds
  of_literals : (l m : Literal) → literal_of a ≡ Some l → literal_of b ≡ Some m
      → IsOperation s known a b x y Equal (truth (same_literal l m))
  of_equal : (both : Ty) → are_literals a b ≡ false → join (ty x) (ty y) ≡ Some both
      → IsOperation s known a b x y Equal types.Bool
  -- entities of two types are never equal
  of_apart : (n m : List ℕ) → are_literals a b ≡ false → entity_name (ty x) ≡ Some n → entity_name (ty y) ≡ Some m
      → bytes_eq n m ≡ false → join (ty x) (ty y) ≡ None
      → IsOperation s known a b x y Equal types.False
  of_contains : (element both : Ty) → member (ty x) ≡ Some element → join element (ty y) ≡ Some both
      → IsOperation s known a b x y Contains types.Bool
  of_sets : (o : BinaryOperator) (first second both : Ty) → IsSetTest o → member (ty x) ≡ Some first
      → member (ty y) ≡ Some second
      → join first second ≡ Some both → IsOperation s known a b x y o types.Bool
  of_has_tag : (n : List ℕ) → entity_name (ty x) ≡ Some n → is_string (ty y) ≡ true
      → IsOperation s known a b x y HasTag (has_tag (tags_of s n) (is_known known (tag_of a b)))
  of_get_tag : (n : List ℕ) (type : Ty) → entity_name (ty x) ≡ Some n → is_string (ty y) ≡ true
      → tags_of s n ≡ Some type
      → is_known known (tag_of a b) ≡ true → IsOperation s known a b x y GetTag type
  of_decimals : (o : BinaryOperator) → IsDecimalComparison o → is_decimal (ty x) ≡ true → is_decimal (ty y) ≡ true
      → IsOperation s known a b x y o types.Bool
  of_ranges : is_ip (ty x) ≡ true → is_ip (ty y) ≡ true → IsOperation s known a b x y IsInRange types.Bool

pub data IsAddressTest : UnaryOperator → Type 0 where
  version_4 : IsAddressTest IsIpv4
  version_6 : IsAddressTest IsIpv6
  loopback : IsAddressTest IsLoopback
  multicast : IsAddressTest IsMulticast

-- an operator has a type, of an operand a that is typed as x
pub data IsApplication (a : Expr) (x : TypedExpr) : UnaryOperator → Ty → Type 0 where
  of_not : is_boolean (ty x) ≡ true → IsApplication a x Not (negated (ty x))
  of_negate : is_long (ty x) ≡ true → IsApplication a x Negate types.Long
  of_is_empty : (element : Ty) → member (ty x) ≡ Some element → IsApplication a x IsEmpty types.Bool
  of_address_test : (o : UnaryOperator) → IsAddressTest o → is_ip (ty x) ≡ true → IsApplication a x o types.Bool
  of_decimal : (text : List ℕ) (n : _) → text_of a ≡ Some text → decimal_of text ≡ Some n
      → IsApplication a x Decimal types.Decimal
  of_ip : (text : List ℕ) (ip : Address) → text_of a ≡ Some text → ip_of text ≡ Some ip → IsApplication a x Ip types.Ip
