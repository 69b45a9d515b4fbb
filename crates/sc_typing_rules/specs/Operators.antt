-- The types of operators, in the order of the grammar.
use Rattle.std.specs.Prelude.{ℕ, List, [], ◌∷◌, Bool, false, not, ◌||◌, if◌then◌else◌, Option, Some, None, option_map, is_some, unwrap_or, Result, Ok}
use Rattle.std.specs.List.{list_any}
use Rattle.std.specs.Option.{option_and_then}
use Rattle.std.specs.Str.{bytes_eq}
use Rattle.sc_ast.specs.declared.place.Place.{Place}
use Rattle.sc_ast.specs.declared.expr.Expr.{Expr, Expr-F, out-Expr}
use Rattle.sc_ast.specs.declared.expr.Expr.TheOpen as e
use Rattle.sc_ast.specs.declared.literal.Literal.{Literal}
use Rattle.sc_ast.specs.declared.operator.BinaryOperator.{BinaryOperator}
use Rattle.sc_ast.specs.declared.operator.BinaryOperator.TheVariants.{Less, LessOrEqual, Greater, GreaterOrEqual, Equal, In, Add, Subtract, Multiply, Contains, ContainsAll, ContainsAny, HasTag, GetTag, LessThan, LessThanOrEqual, GreaterThan, GreaterThanOrEqual, IsInRange}
use Rattle.sc_ast.specs.declared.operator.UnaryOperator.{UnaryOperator}
use Rattle.sc_ast.specs.declared.operator.UnaryOperator.TheVariants.{Not, Negate, IsEmpty, IsIpv4, IsIpv6, IsLoopback, IsMulticast, Decimal, Ip}
use Rattle.sc_decimal.specs.DecimalValue.{decimal_of}
use Rattle.sc_ip.specs.IpValue.{ip_of}
use Rattle.sc_names.specs.declared.uid.Uid.{Uid}
use Rattle.sc_schema.specs.declared.ty.Ty.{Ty}
use Rattle.sc_schema.specs.declared.ty.Ty.TheVariants as ty
use Rattle.sc_schema.specs.Declarations.{Declarations, uid_eq, tags_of, ancestor_types, action_ancestors}
use Rattle.sc_typed.specs.declared.fault.TypeFault.{TypeFault}
use Rattle.sc_typed.specs.declared.fault.TypeRule.TheVariants.{NoJoin, NoTags, TagMaybeAbsent, BadLiteral}
use Rattle.sc_typed.specs.declared.typed_expr.TypedExpr.{TypedExpr}
use Rattle.sc_typed.specs.Types.{is_true, is_false, is_either, entity_name, truth, join}
use Rattle.sc_typed.specs.Capabilities.{Capabilities, tag_of, is_known}
use Rattle.sc_typed.specs.Literals.{literal_of, uid_in, uid_of, text_of, same_literal}
use Rattle.sc_typed.specs.Outcomes.{◌>>=◌, fails, check, as_boolean, as_long, as_string, as_decimal, as_ip, as_entity, as_group, as_set, joined}
use Rattle.sc_typed.specs.Outcomes as outcome

-- ---- operands of given kinds, and the type of the result

abbrev pub longs : TypedExpr → TypedExpr → Ty → Result Ty TypeFault
longs x y type = as_long x >>= λ p. as_long y >>= λ q. Ok type

abbrev pub decimals : TypedExpr → TypedExpr → Result Ty TypeFault
decimals x y = as_decimal x >>= λ p. as_decimal y >>= λ q. Ok ty.Bool

abbrev pub addresses : TypedExpr → TypedExpr → Result Ty TypeFault
addresses x y = as_ip x >>= λ p. as_ip y >>= λ q. Ok ty.Bool

-- a set, and something that its members' type joins
abbrev pub contained : Place → TypedExpr → TypedExpr → Result Ty TypeFault
contained place x y = as_set x >>= λ member. joined place member (outcome.ty y) >>= λ both. Ok ty.Bool

-- two sets whose members' types join
abbrev pub sets : Place → TypedExpr → TypedExpr → Result Ty TypeFault
sets place x y = as_set x >>= λ s. as_set y >>= λ t. joined place s t >>= λ both. Ok ty.Bool

-- ---- `==`

-- two types of entities have different names, so that their entities are never equal
abbrev pub are_apart : Option (List ℕ) → Option (List ℕ) → Bool
are_apart (Some n) (Some m) = not (bytes_eq n m)
are_apart (Some n) None = false
are_apart None m = false

abbrev pub compared : Place → Ty → Ty → Result Ty TypeFault
compared place s t = if is_some (join s t) then Ok ty.Bool
    else (if are_apart (entity_name s) (entity_name t) then Ok ty.False else fails NoJoin place)

-- two literals are compared by value
abbrev pub equal_by : Place → Option Literal → Option Literal → Ty → Ty → Result Ty TypeFault
equal_by place (Some l) (Some m) s t = Ok (truth (same_literal l m))
equal_by place (Some l) None s t = compared place s t
equal_by place None m s t = compared place s t

-- ---- `in`

-- an entity of the first type may be one of the second type, or in one
abbrev pub may_be_in : Declarations → List ℕ → List ℕ → Bool
may_be_in s t u = bytes_eq t u || list_any (bytes_eq u) (unwrap_or (ancestor_types s t) [])

abbrev pub within : Declarations → TypedExpr → TypedExpr → Result Ty TypeFault
within s x y = as_entity x >>= λ t. as_group y >>= λ u. Ok (if may_be_in s t u then ty.Bool else ty.False)

-- a declared action and the actions that it is in
abbrev pub action_of : Declarations → Option Uid → Option (List Uid)
action_of s o = option_and_then (λ u. option_map (λ us. u ∷ us) (action_ancestors s u)) o

-- the uids of expressions that are all uids
abbrev pub uids_of : List Expr → Option (List Uid)
uids_of [] = Some []
uids_of (x ∷ xs) = option_and_then (λ u. option_map (λ us. u ∷ us) (uids_of xs)) (uid_of x)

-- none of no expressions
abbrev pub some_uids_of : List Expr → Option (List Uid)
some_uids_of [] = None
some_uids_of (x ∷ xs) = uids_of (x ∷ xs)

abbrev pub group_in : Expr-F Expr → Option (List Uid)
group_in (e.Literal place l) = option_map (λ u. u ∷ []) (uid_in l)
group_in (e.Set place members) = some_uids_of members
group_in _ = None

-- the uid that an expression is, or those of a set of uids
abbrev pub group_of : Expr → Option (List Uid)
group_of x = group_in (out-Expr x)

-- some of the uids is among the first ones
abbrev pub meets : List Uid → List Uid → Bool
meets above uids = list_any (λ u. list_any (uid_eq u) above) uids

-- whether an action is one of some uids or in one, by the ancestors that the schema declares
abbrev pub decided_by : Option (List Uid) → Option (List Uid) → Option Bool
decided_by (Some above) (Some uids) = Some (meets above uids)
decided_by (Some above) None = None
decided_by None uids = None

-- `a in b` of a declared action and of one or more uids
abbrev pub decided : Declarations → Expr → Expr → Option Bool
decided s a b = decided_by (action_of s (uid_of a)) (group_of b)

-- ---- tags

-- the type of an entity's tags, if entities of its type have any; the key has to be a text
abbrev pub tags : Declarations → TypedExpr → TypedExpr → Result (Option Ty) TypeFault
tags s x y = as_entity x >>= λ name. as_string y >>= λ p. Ok (tags_of s name)

abbrev pub has_tag : Option Ty → Bool → Ty
has_tag None known = ty.False
has_tag (Some type) known = if known then ty.True else ty.Bool

abbrev pub get_tag : Place → Option Ty → Bool → Result Ty TypeFault
get_tag place None known = fails NoTags place
get_tag place (Some type) known = if known then Ok type else fails TagMaybeAbsent place

abbrev pub tag_test : Declarations → Capabilities → Expr → Expr → TypedExpr → TypedExpr → Result Ty TypeFault
tag_test s known a b x y = tags s x y >>= λ o. Ok (has_tag o (is_known known (tag_of a b)))

abbrev pub tag_read : Declarations → Capabilities → Place → Expr → Expr → TypedExpr → TypedExpr → Result Ty TypeFault
tag_read s known place a b x y = tags s x y >>= λ o. get_tag place o (is_known known (tag_of a b))

-- ---- two operands

-- the type of an operator's result, at a place, of two operands and of these with their types
abbrev pub binary : Declarations → Capabilities → Place → BinaryOperator → Expr → Expr → TypedExpr → TypedExpr
    → Result Ty TypeFault
binary s known place Less a b x y = longs x y ty.Bool
binary s known place LessOrEqual a b x y = longs x y ty.Bool
binary s known place Greater a b x y = longs x y ty.Bool
binary s known place GreaterOrEqual a b x y = longs x y ty.Bool
binary s known place Equal a b x y = equal_by place (literal_of a) (literal_of b) (outcome.ty x) (outcome.ty y)
binary s known place In a b x y = within s x y
binary s known place Add a b x y = longs x y ty.Long
binary s known place Subtract a b x y = longs x y ty.Long
binary s known place Multiply a b x y = longs x y ty.Long
binary s known place Contains a b x y = contained place x y
binary s known place ContainsAll a b x y = sets place x y
binary s known place ContainsAny a b x y = sets place x y
binary s known place HasTag a b x y = tag_test s known a b x y
binary s known place GetTag a b x y = tag_read s known place a b x y
binary s known place LessThan a b x y = decimals x y
binary s known place LessThanOrEqual a b x y = decimals x y
binary s known place GreaterThan a b x y = decimals x y
binary s known place GreaterThanOrEqual a b x y = decimals x y
binary s known place IsInRange a b x y = addresses x y

-- `hasTag` that may be true or false gives its tag
abbrev pub given_tag : Expr → Expr → Ty → Capabilities
given_tag a b type = if is_either type then tag_of a b ∷ [] else []

-- what an operator gives
abbrev pub given_by : BinaryOperator → Expr → Expr → Ty → Capabilities
given_by HasTag a b type = given_tag a b type
given_by operator a b type = []

-- ---- one operand

abbrev pub negated : Ty → Ty
negated t = if is_false t then ty.True else (if is_true t then ty.False else ty.Bool)

abbrev pub opposite : TypedExpr → Result Ty TypeFault
opposite x = as_boolean x >>= λ p. Ok (negated (outcome.ty x))

abbrev pub negative : TypedExpr → Result Ty TypeFault
negative x = as_long x >>= λ p. Ok ty.Long

abbrev pub emptiness : TypedExpr → Result Ty TypeFault
emptiness x = as_set x >>= λ member. Ok ty.Bool

abbrev pub address : TypedExpr → Result Ty TypeFault
address x = as_ip x >>= λ p. Ok ty.Bool

-- whether an expression is a literal text that reads
abbrev pub reads : {A : Type 0} → (List ℕ → Option A) → Expr → Bool
reads read a = is_some (option_and_then read (text_of a))

abbrev pub read_as : Bool → Place → Ty → Result Ty TypeFault
read_as reads place type = check reads BadLiteral place >>= λ p. Ok type

-- the type of an operator's result, at a place, of an operand and of it with its types
abbrev pub unary : Place → UnaryOperator → Expr → TypedExpr → Result Ty TypeFault
unary place Not a x = opposite x
unary place Negate a x = negative x
unary place IsEmpty a x = emptiness x
unary place IsIpv4 a x = address x
unary place IsIpv6 a x = address x
unary place IsLoopback a x = address x
unary place IsMulticast a x = address x
unary place Decimal a x = read_as (reads decimal_of a) place ty.Decimal
unary place Ip a x = read_as (reads ip_of a) place ty.Ip
