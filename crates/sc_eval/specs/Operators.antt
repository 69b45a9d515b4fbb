-- The operators on values, in the order of the grammar.
use Rattle.std.specs.Prelude.{ℕ, List, [], ◌∷◌, Bool, true, false, not, Ok, Result, ℤ, ◌+ℤ◌, ◌-ℤ◌, ◌*ℤ◌, neg_ℤ, int_lt, int_le}
use Rattle.std.specs.List.{list_any, list_all}
use Rattle.std.specs.Str.{chars}
use Rattle.sc_ast.specs.declared.literal.Literal.{Literal}
use Rattle.sc_ast.specs.declared.literal.Literal.TheVariants as literal
use Rattle.sc_ast.specs.declared.expr.Variable.{Variable}
use Rattle.sc_ast.specs.declared.expr.Variable.TheVariants.{Principal, Action, Resource, Context}
use Rattle.sc_ast.specs.declared.operator.BinaryOperator.{BinaryOperator}
use Rattle.sc_ast.specs.declared.operator.BinaryOperator.TheVariants.{Less, LessOrEqual, Greater, GreaterOrEqual, Equal, In, Add, Subtract, Multiply, Contains, ContainsAll, ContainsAny, HasTag, GetTag, LessThan, LessThanOrEqual, GreaterThan, GreaterThanOrEqual, IsInRange}
use Rattle.sc_ast.specs.declared.operator.UnaryOperator.{UnaryOperator}
use Rattle.sc_ast.specs.declared.operator.UnaryOperator.TheVariants.{Not, Negate, IsEmpty, IsIpv4, IsIpv6, IsLoopback, IsMulticast, Decimal, Ip}
use Rattle.sc_decimal.specs.DecimalValue.{decimal_of}
use Rattle.sc_ip.specs.declared.ip.Ip as ip
use Rattle.sc_ip.specs.Addresses.{is_version_4, is_in_range, is_loopback, is_multicast}
use Rattle.sc_ip.specs.IpValue.{ip_of}
use Rattle.sc_names.specs.declared.uid.Uid.{Uid}
use Rattle.sc_pattern.specs.declared.part.Part.{Part}
use Rattle.sc_pattern.specs.Language.{is_match}
use Rattle.sc_values.specs.declared.value.Value.{Value}
use Rattle.sc_values.specs.declared.value.Value.TheVariants as value
use Rattle.sc_world.specs.declared.world.Request.{Request}
use Rattle.sc_world.specs.declared.world.World.{World}
use Rattle.sc_world.specs.Stores.{stored}
use Rattle.sc_eval.specs.declared.error.EvalError.{EvalError}
use Rattle.sc_eval.specs.Outcomes.{Outcome, ◌>>=◌, as_bool, as_long, as_text, as_entity, as_set, as_decimal, as_address, of_bool, of_long, of_text}
use Rattle.sc_eval.specs.Entities.{has_tag, tag_of, is_in}
use Rattle.sc_eval.specs.Collections.{is_same, is_member}

-- ---- two operands of given kinds

abbrev pub longs : Value → Value → (ℤ → ℤ → Outcome) → Outcome
longs x y f = as_long x >>= λ m. as_long y >>= λ n. f m n

abbrev pub sets : Value → Value → (List Value → List Value → Outcome) → Outcome
sets x y f = as_set x >>= λ s. as_set y >>= λ t. f s t

abbrev pub decimals : Value → Value → (ℤ → ℤ → Outcome) → Outcome
decimals x y f = as_decimal x >>= λ m. as_decimal y >>= λ n. f m n

abbrev pub addresses : Value → Value → (ip.Ip → ip.Ip → Outcome) → Outcome
addresses x y f = as_address x >>= λ a. as_address y >>= λ b. f a b

-- an entity and a tag's key
abbrev pub tagged : Value → Value → (Uid → List ℕ → Outcome) → Outcome
tagged x y f = as_entity x >>= λ u. as_text y >>= λ key. f u key

-- a set has the second operand
abbrev pub contained : Value → Value → Outcome
contained x y = as_set x >>= λ s. of_bool (is_member s y)

-- ---- the operators

abbrev pub binary : BinaryOperator → World → Value → Value → Outcome
binary Less w x y = longs x y (λ m n. of_bool (int_lt m n))
binary LessOrEqual w x y = longs x y (λ m n. of_bool (int_le m n))
binary Greater w x y = longs x y (λ m n. of_bool (int_lt n m))
binary GreaterOrEqual w x y = longs x y (λ m n. of_bool (int_le n m))
binary Equal w x y = of_bool (is_same x y)
binary In w x y = is_in w x y >>= of_bool
binary Add w x y = longs x y (λ m n. of_long (m +ℤ n))
binary Subtract w x y = longs x y (λ m n. of_long (m -ℤ n))
binary Multiply w x y = longs x y (λ m n. of_long (m *ℤ n))
binary Contains w x y = contained x y
binary ContainsAll w x y = sets x y (λ s t. of_bool (list_all (is_member s) t))
binary ContainsAny w x y = sets x y (λ s t. of_bool (list_any (is_member s) t))
binary HasTag w x y = tagged x y (λ u key. of_bool (has_tag key (stored u w.store)))
binary GetTag w x y = tagged x y (λ u key. tag_of key (stored u w.store))
binary LessThan w x y = decimals x y (λ m n. of_bool (int_lt m n))
binary LessThanOrEqual w x y = decimals x y (λ m n. of_bool (int_le m n))
binary GreaterThan w x y = decimals x y (λ m n. of_bool (int_lt n m))
binary GreaterThanOrEqual w x y = decimals x y (λ m n. of_bool (int_le n m))
binary IsInRange w x y = addresses x y (λ a b. of_bool (is_in_range a b))

-- the text of a value matches the pattern
abbrev pub is_like : List Part → Value → Result Bool EvalError
is_like pattern x = as_text x >>= λ text. Ok (is_match pattern (chars text))

abbrev pub is_empty : List Value → Bool
is_empty [] = true
is_empty (x ∷ xs) = false

abbrev pub unary : UnaryOperator → Value → Outcome
unary Not x = as_bool x >>= λ b. of_bool (not b)
unary Negate x = as_long x >>= λ n. of_long (neg_ℤ n)
unary IsEmpty x = as_set x >>= λ s. of_bool (is_empty s)
unary IsIpv4 x = as_address x >>= λ a. of_bool (is_version_4 a)
unary IsIpv6 x = as_address x >>= λ a. of_bool (not (is_version_4 a))
unary IsLoopback x = as_address x >>= λ a. of_bool (is_loopback a)
unary IsMulticast x = as_address x >>= λ a. of_bool (is_multicast a)
unary Decimal x = as_text x >>= λ text. of_text value.Decimal (decimal_of text)
unary Ip x = as_text x >>= λ text. of_text value.Ip (ip_of text)

-- ---- literals and variables

abbrev pub literal_value : Literal → Value
literal_value (literal.Bool b) = value.Bool b
literal_value (literal.Long n) = value.Long n
literal_value (literal.String text) = value.String text
literal_value (literal.Entity u) = value.Entity u

abbrev pub variable_value : Variable → Request → Value
variable_value Principal r = value.Entity r.principal
variable_value Action r = value.Entity r.action
variable_value Resource r = value.Entity r.resource
variable_value Context r = value.Record r.context
