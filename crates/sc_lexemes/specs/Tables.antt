-- The operators, methods and functions by their tokens and names.
use Rattle.std.specs.Prelude.{ℕ, ℤ, pos, neg_ℤ, List, [], ◌∷◌, codes, Bool, option_map, if◌then◌else◌, nat_le}
use Rattle.std.specs.List.{list_any}
use Rattle.std.specs.Str.{bytes_eq}
use Rattle.std.specs.declared.option.Option.{Option}
use Rattle.std.specs.declared.option.Option.TheVariants.{Some, None}
use Rattle.sc_ast.specs.declared.place.Place.{Place}
use Rattle.sc_ast.specs.declared.expr.Expr.{Expr}
use Rattle.sc_ast.specs.declared.expr.Expr.TheVariants as expr
use Rattle.sc_ast.specs.declared.expr.Variable.{Variable}
use Rattle.sc_ast.specs.declared.expr.Variable.TheVariants as variable
use Rattle.sc_ast.specs.declared.operator.UnaryOperator.{UnaryOperator}
use Rattle.sc_ast.specs.declared.operator.UnaryOperator.TheVariants as unary
use Rattle.sc_ast.specs.declared.operator.BinaryOperator.{BinaryOperator}
use Rattle.sc_ast.specs.declared.operator.BinaryOperator.TheVariants as binary
use Rattle.sc_lexer.specs.declared.token.Kind.{Kind}
use Rattle.sc_lexer.specs.declared.token.Kind.TheVariants as kind
use Rattle.sc_lexemes.specs.declared.lexeme.Shape.{Shape}
use Rattle.sc_lexemes.specs.declared.lexeme.Shape.TheVariants as shape
use Rattle.sc_lexemes.specs.declared.operator.Operator.{Operator}
use Rattle.sc_lexemes.specs.declared.operator.Operator.TheVariants as op
use Rattle.sc_lexemes.specs.declared.operator.Level.{Level}
use Rattle.sc_lexemes.specs.declared.operator.Level.TheVariants as level

abbrev pub operator_of_sign : Kind → Option Operator
operator_of_sign kind.Or = Some op.Or
operator_of_sign kind.And = Some op.And
operator_of_sign kind.Less = Some op.Less
operator_of_sign kind.LessOrEqual = Some op.LessOrEqual
operator_of_sign kind.Greater = Some op.Greater
operator_of_sign kind.GreaterOrEqual = Some op.GreaterOrEqual
operator_of_sign kind.Equal = Some op.Equal
operator_of_sign kind.NotEqual = Some op.NotEqual
operator_of_sign kind.Plus = Some op.Add
operator_of_sign kind.Minus = Some op.Subtract
operator_of_sign kind.Star = Some op.Multiply
operator_of_sign _ = None

abbrev pub operator_of_word : List ℕ → Option Operator
operator_of_word w = if bytes_eq w (codes "in") then Some op.In else None

-- the operator between two operands that a token is
unfoldable pub operator_of : Shape → Option Operator
operator_of (shape.Word w) = operator_of_word w
operator_of (shape.Number digits) = None
operator_of (shape.String text parts) = None
operator_of (shape.Sign k) = operator_of_sign k

-- how tightly it binds
abbrev pub level_of : Operator → Level
level_of op.Or = level.Or
level_of op.And = level.And
level_of op.Less = level.Relation
level_of op.LessOrEqual = level.Relation
level_of op.Greater = level.Relation
level_of op.GreaterOrEqual = level.Relation
level_of op.Equal = level.Relation
level_of op.NotEqual = level.Relation
level_of op.In = level.Relation
level_of op.Add = level.Add
level_of op.Subtract = level.Add
level_of op.Multiply = level.Multiply

-- what it makes of its operands
abbrev pub joined : Operator → Place → Expr → Expr → Expr
joined op.Or p a b = expr.Or p a b
joined op.And p a b = expr.And p a b
joined op.Less p a b = expr.Binary p binary.Less a b
joined op.LessOrEqual p a b = expr.Binary p binary.LessOrEqual a b
joined op.Greater p a b = expr.Binary p binary.Greater a b
joined op.GreaterOrEqual p a b = expr.Binary p binary.GreaterOrEqual a b
joined op.Equal p a b = expr.Binary p binary.Equal a b
joined op.NotEqual p a b = expr.Unary p unary.Not (expr.Binary p binary.Equal a b)
joined op.In p a b = expr.Binary p binary.In a b
joined op.Add p a b = expr.Binary p binary.Add a b
joined op.Subtract p a b = expr.Binary p binary.Subtract a b
joined op.Multiply p a b = expr.Binary p binary.Multiply a b

-- the prefix that a token is
abbrev pub prefix_of_sign : Kind → Option UnaryOperator
prefix_of_sign kind.Not = Some unary.Not
prefix_of_sign kind.Minus = Some unary.Negate
prefix_of_sign _ = None

unfoldable pub prefix_of : Shape → Option UnaryOperator
prefix_of (shape.Word w) = None
prefix_of (shape.Number digits) = None
prefix_of (shape.String text parts) = None
prefix_of (shape.Sign k) = prefix_of_sign k

-- the variable that a word is
unfoldable pub variable_of : List ℕ → Option Variable
variable_of w =
    if bytes_eq w (codes "principal") then Some variable.Principal
    else (if bytes_eq w (codes "action") then Some variable.Action
    else (if bytes_eq w (codes "resource") then Some variable.Resource
    else (if bytes_eq w (codes "context") then Some variable.Context
    else None)))

-- the methods without arguments
unfoldable pub test_of : List ℕ → Option UnaryOperator
test_of w =
    if bytes_eq w (codes "isEmpty") then Some unary.IsEmpty
    else (if bytes_eq w (codes "isIpv4") then Some unary.IsIpv4
    else (if bytes_eq w (codes "isIpv6") then Some unary.IsIpv6
    else (if bytes_eq w (codes "isLoopback") then Some unary.IsLoopback
    else (if bytes_eq w (codes "isMulticast") then Some unary.IsMulticast
    else None))))

-- the methods with one argument
unfoldable pub method_of : List ℕ → Option BinaryOperator
method_of w =
    if bytes_eq w (codes "contains") then Some binary.Contains
    else (if bytes_eq w (codes "containsAll") then Some binary.ContainsAll
    else (if bytes_eq w (codes "containsAny") then Some binary.ContainsAny
    else (if bytes_eq w (codes "hasTag") then Some binary.HasTag
    else (if bytes_eq w (codes "getTag") then Some binary.GetTag
    else (if bytes_eq w (codes "lessThan") then Some binary.LessThan
    else (if bytes_eq w (codes "lessThanOrEqual") then Some binary.LessThanOrEqual
    else (if bytes_eq w (codes "greaterThan") then Some binary.GreaterThan
    else (if bytes_eq w (codes "greaterThanOrEqual") then Some binary.GreaterThanOrEqual
    else (if bytes_eq w (codes "isInRange") then Some binary.IsInRange
    else None)))))))))

-- the functions, each with one argument
unfoldable pub function_of : List ℕ → Option UnaryOperator
function_of w =
    if bytes_eq w (codes "decimal") then Some unary.Decimal
    else (if bytes_eq w (codes "ip") then Some unary.Ip
    else None)

-- the call of a method, if there is one of this name with so many arguments
abbrev pub called : Place → Expr → List ℕ → List Expr → Option Expr
called p a w [] = option_map (λ o. expr.Unary p o a) (test_of w)
called p a w (x ∷ []) = option_map (λ o. expr.Binary p o a x) (method_of w)
called p a w (x ∷ y ∷ ys) = None

-- the call of a function, if there is one of this name with so many arguments
abbrev pub applied : Place → List ℕ → List Expr → Option Expr
applied p w [] = None
applied p w (x ∷ []) = option_map (λ o. expr.Unary p o x) (function_of w)
applied p w (x ∷ y ∷ ys) = None

-- a record has the key
abbrev pub has_key : List ℕ → List (List ℕ × Expr) → Bool
has_key n fields = list_any (λ (f : List ℕ × Expr). bytes_eq n f.0) fields

-- the number fits in 64 bits with its sign
abbrev pub is_long : ℕ → Bool
is_long n = nat_le n 9223372036854775807

-- the digits that are a number of 64 bits with a minus before them alone
abbrev pub least_digits : List ℕ
least_digits = codes "9223372036854775808"

-- the least number of 64 bits
abbrev pub least_long : ℤ
least_long = neg_ℤ (pos 9223372036854775808)
