-- The values of some expressions.
use Rattle.std.proofs.Common.{◌≡◌, ℕ, ℤ, pos, negsuc, List, [], ◌∷◌, true, false, Ok, Err, codes, refl, ap, ◌∙◌}
use Rattle.std.specs.Fmt.{digits}
use Rattle.std.specs.Str.{chars}
use Rattle.sc_ast.specs.declared.expr.Expr.{Expr}
use Rattle.sc_ast.specs.declared.expr.Expr.TheVariants as expr
use Rattle.sc_ast.specs.declared.literal.Literal.{Literal}
use Rattle.sc_ast.specs.declared.literal.Literal.TheVariants as literal
use Rattle.sc_ast.specs.declared.operator.BinaryOperator.{BinaryOperator}
use Rattle.sc_ast.specs.declared.operator.BinaryOperator.TheVariants.{Add, Subtract, Multiply, Equal, Less, In, IsInRange}
use Rattle.sc_ast.specs.declared.operator.UnaryOperator.{UnaryOperator}
use Rattle.sc_ast.specs.declared.operator.UnaryOperator.TheVariants.{Negate, IsMulticast, Decimal, Ip}
use Rattle.sc_ast.specs.declared.place.Place.{Place}
use Rattle.sc_ip.specs.declared.ip.Ip.TheVariants.{V4, V6}
use Rattle.sc_ip.specs.IpValue.{ip_of, address_from}
use Rattle.sc_decimal.specs.DecimalValue.{decimal_of}
use Rattle.sc_pattern.specs.declared.part.Part.TheVariants.{Star, Char}
use Rattle.sc_pattern.specs.Language.{is_match}
use Rattle.sc_values.specs.declared.value.Value.{Value}
use Rattle.sc_values.specs.declared.value.Value.TheVariants as value
use Rattle.sc_values.proofs.OrderLaws.{value_cmp_by_kind}
use Rattle.sc_values.proofs.OutLaws.{out_Long, out_String, out_Entity, out_Set, out_Ip}
use Rattle.sc_world.specs.declared.world.World.{World}
use Rattle.sc_eval.specs.declared.error.EvalError.TheVariants.{TypeError, Overflow, BadText}
use Rattle.sc_eval.specs.Outcomes.{Outcome, ◌>>=◌, of_bool}
use Rattle.sc_eval.specs.Collections.{members_of}
use Rattle.sc_eval.specs.Operators.{binary, unary, is_like}
use Rattle.sc_eval.specs.Eval.{eval}
use Rattle.sc_eval.specs.Written.{has_each}
use Rattle.sc_eval.specs.ConstructLaws.{eval_Binary, eval_Unary, eval_Literal}

abbrev at : Place
at = record { offset = 0 }

abbrev written : Literal → Expr
written l = expr.Literal at l

abbrev long : ℤ → Expr
long n = written (literal.Long n)

abbrev text : List ℕ → Expr
text s = written (literal.String s)

abbrev op : BinaryOperator → Expr → Expr → Expr
op operator a b = expr.Binary at operator a b

abbrev call : UnaryOperator → Expr → Expr
call operator a = expr.Unary at operator a

abbrev greatest : ℤ
greatest = pos 9223372036854775807

abbrev least : ℤ
least = negsuc 9223372036854775807

-- an operator on what its operands are worth
on_two : (operator : BinaryOperator) (a b : Expr) (x y : Outcome) (w : World) → eval a w ≡ x → eval b w ≡ y → eval (op operator a b) w ≡ (x >>= λ p. y >>= λ q. binary operator w p q)
on_two operator a b x y w at_a at_b = eval_Binary at operator a b w ∙ ap (λ o. o >>= λ p. eval b w >>= λ q. binary operator w p q) at_a ∙ ap (λ o. x >>= λ p. o >>= λ q. binary operator w p q) at_b

on_one : (operator : UnaryOperator) (a : Expr) (x : Outcome) (w : World) → eval a w ≡ x → eval (call operator a) w ≡ (x >>= unary operator)
on_one operator a x w at_a = eval_Unary at operator a w ∙ ap (λ o. o >>= unary operator) at_a

-- ---- numbers

add-overflow : (w : World) → eval (op Add (long greatest) (long (pos 1))) w ≡ Err Overflow
add-overflow w =
    on_two Add (long greatest) (long (pos 1)) (Ok (value.Long greatest)) (Ok (value.Long (pos 1))) w (eval_Literal at (literal.Long greatest) w) (eval_Literal at (literal.Long (pos 1)) w)
    ∙ rw (out_Long greatest, out_Long (pos 1)) refl

-- the kinds are checked after both operands are evaluated
error-before-kind : (w : World) → eval (op Add (text (codes "a")) (op Add (long greatest) (long (pos 1)))) w ≡ Err Overflow
error-before-kind w =
    on_two Add (text (codes "a")) (op Add (long greatest) (long (pos 1))) (Ok (value.String (codes "a"))) (Err Overflow) w (eval_Literal at (literal.String (codes "a")) w) (add-overflow w)

subtract-least : (w : World) → binary Subtract w (value.Long least) (value.Long (pos 1)) ≡ Err Overflow
subtract-least w = rw (out_Long least, out_Long (pos 1)) refl

multiply-fits : (w : World) → binary Multiply w (value.Long (pos 3037000499)) (value.Long (pos 3037000499)) ≡ Ok (value.Long (pos 9223372030926249001))
multiply-fits w = rw (out_Long (pos 3037000499)) refl

multiply-overflow : (w : World) → binary Multiply w (value.Long (pos 3037000500)) (value.Long (pos 3037000500)) ≡ Err Overflow
multiply-overflow w = rw (out_Long (pos 3037000500)) refl

negate-least : unary Negate (value.Long least) ≡ Err Overflow
negate-least = rw (out_Long least) refl

less-of-texts : (w : World) → binary Less w (value.String (codes "a")) (value.String (codes "b")) ≡ Err TypeError
less-of-texts w = rw (out_String (codes "a")) refl

-- ---- equality

equal-across_kinds : (w : World) → eval (op Equal (long (pos 1)) (text (codes "1"))) w ≡ of_bool false
equal-across_kinds w =
    on_two Equal (long (pos 1)) (text (codes "1")) (Ok (value.Long (pos 1))) (Ok (value.String (codes "1"))) w (eval_Literal at (literal.Long (pos 1)) w) (eval_Literal at (literal.String (codes "1")) w)
    ∙ rw (value_cmp_by_kind (value.Long (pos 1)) (value.String (codes "1")), out_Long (pos 1), out_String (codes "1")) refl

-- ---- addresses

read-address : (s : List ℕ) (w : World) → eval (call Ip (text s)) w ≡ unary Ip (value.String s)
read-address s w = on_one Ip (text s) (Ok (value.String s)) w (eval_Literal at (literal.String s) w)

address-one : (w : World) → eval (call Ip (text (codes "192.168.0.1/24"))) w ≡ Ok (value.Ip (V4 3232235521 24))
unfolding ip_of address_from digits
address-one w = read-address (codes "192.168.0.1/24") w ∙ rw (out_String (codes "192.168.0.1/24")) refl

address-eight : (w : World) → eval (call Ip (text (codes "192.168.0.8/24"))) w ≡ Ok (value.Ip (V4 3232235528 24))
unfolding ip_of address_from digits
address-eight w = read-address (codes "192.168.0.8/24") w ∙ rw (out_String (codes "192.168.0.8/24")) refl

-- addresses of one range are two
equal-addresses : (w : World) → eval (op Equal (call Ip (text (codes "192.168.0.1/24"))) (call Ip (text (codes "192.168.0.8/24")))) w ≡ of_bool false
equal-addresses w =
    on_two Equal (call Ip (text (codes "192.168.0.1/24"))) (call Ip (text (codes "192.168.0.8/24"))) (Ok (value.Ip (V4 3232235521 24))) (Ok (value.Ip (V4 3232235528 24))) w (address-one w) (address-eight w)
    ∙ rw (value_cmp_by_kind (value.Ip (V4 3232235521 24)) (value.Ip (V4 3232235528 24)), out_Ip (V4 3232235521 24), out_Ip (V4 3232235528 24)) refl

all-of_version_4 : (w : World) → eval (call Ip (text (codes "10.0.0.0/8"))) w ≡ Ok (value.Ip (V4 167772160 8))
unfolding ip_of address_from digits
all-of_version_4 w = read-address (codes "10.0.0.0/8") w ∙ rw (out_String (codes "10.0.0.0/8")) refl

all-of_version_6 : (w : World) → eval (call Ip (text (codes "::/0"))) w ≡ Ok (value.Ip (V6 0 0))
unfolding ip_of address_from digits
all-of_version_6 w = read-address (codes "::/0") w ∙ rw (out_String (codes "::/0")) refl

-- no range is within one of the other version
in_range-across_versions : (w : World) → eval (op IsInRange (call Ip (text (codes "10.0.0.0/8"))) (call Ip (text (codes "::/0")))) w ≡ of_bool false
in_range-across_versions w =
    on_two IsInRange (call Ip (text (codes "10.0.0.0/8"))) (call Ip (text (codes "::/0"))) (Ok (value.Ip (V4 167772160 8))) (Ok (value.Ip (V6 0 0))) w (all-of_version_4 w) (all-of_version_6 w)
    ∙ rw (out_Ip (V4 167772160 8), out_Ip (V6 0 0)) refl

multicast : (w : World) → eval (call IsMulticast (call Ip (text (codes "ff02::1")))) w ≡ of_bool true
unfolding ip_of address_from digits
multicast w =
    on_one IsMulticast (call Ip (text (codes "ff02::1"))) (Ok (value.Ip (V6 0xff02_0000_0000_0000_0000_0000_0000_0001 128))) w (read-address (codes "ff02::1") w ∙ rw (out_String (codes "ff02::1")) refl)
    ∙ rw (out_Ip (V6 0xff02_0000_0000_0000_0000_0000_0000_0001 128)) refl

bad-address : (w : World) → eval (call Ip (text (codes "x"))) w ≡ Err BadText
unfolding ip_of address_from digits
bad-address w = read-address (codes "x") w ∙ rw (out_String (codes "x")) refl

-- ---- decimal numbers

read-decimal : unary Decimal (value.String (codes "-1.23")) ≡ Ok (value.Decimal (negsuc 12299))
unfolding decimal_of
read-decimal = rw (out_String (codes "-1.23")) refl

bad-decimal : unary Decimal (value.String (codes "1.")) ≡ Err BadText
unfolding decimal_of
bad-decimal = rw (out_String (codes "1.")) refl

-- ---- patterns

like-star : is_like (Char 97 ∷ Star ∷ Char 99 ∷ []) (value.String (codes "abbc")) ≡ Ok true
unfolding is_match chars
like-star = rw (out_String (codes "abbc")) refl

like-no_end : is_like (Char 97 ∷ Star ∷ Char 99 ∷ []) (value.String (codes "abcb")) ≡ Ok false
unfolding is_match chars
like-no_end = rw (out_String (codes "abcb")) refl

-- ---- sets

-- each once, ascending
set-of_three : members_of (value.Long (pos 2) ∷ value.Long (pos 1) ∷ value.Long (pos 2) ∷ []) ≡ value.Long (pos 1) ∷ value.Long (pos 2) ∷ []
set-of_three =
    rw (
      value_cmp_by_kind (value.Long (pos 1)) (value.Long (pos 2)),
      out_Long (pos 1),
      out_Long (pos 2),
      value_cmp_by_kind (value.Long (pos 2)) (value.Long (pos 1)),
      out_Long (pos 1),
      out_Long (pos 2),
      value_cmp_by_kind (value.Long (pos 2)) (value.Long (pos 2)),
      out_Long (pos 2),
    ) refl

-- ---- entities

abbrev user : List ℕ → Value
user id = value.Entity (record { type_name = codes "User"; id = id })

-- an entity is in a set that has it, stored or not; but each member has to be an entity
in-set : (w : World) → binary In w (user (codes "a")) (value.Set (user (codes "b") ∷ value.Long (pos 1) ∷ [])) ≡ Err TypeError
in-set w = rw (out_Entity (record { type_name = codes "User"; id = codes "a" }), out_Set (user (codes "b") ∷ value.Long (pos 1) ∷ []), out_Entity (record { type_name = codes "User"; id = codes "b" }), out_Long (pos 1)) refl

-- ---- what is written

-- `x has a.b.c` is `x has a && x.a has b && x.a.b has c`
has-three : (x : Expr) (a b c : List ℕ)
    → has_each at x a (b ∷ c ∷ [])
    ≡ expr.And at (expr.And at (expr.Has at x (a ∷ [])) (expr.Has at (expr.Access at x a) (b ∷ []))) (expr.Has at (expr.Access at (expr.Access at x a) b) (c ∷ []))
has-three x a b c = refl

has-one : (x : Expr) (a : List ℕ) → has_each at x a [] ≡ expr.Has at x (a ∷ [])
has-one x a = refl
