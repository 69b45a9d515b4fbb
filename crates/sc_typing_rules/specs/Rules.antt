-- The type of an expression under capabilities, and the capabilities that it gives where it is true. Operands are
-- typed first, from left to right, but for those that a rule skips; then their kinds are asked for, from left to
-- right; then comes the rest of the rule. The first fault stands.
use Rattle.std.specs.Prelude.{ℕ, List, [], ◌∷◌, ◌++◌, map, fold, Bool, ◌||◌, if◌then◌else◌, Option, Some, None, unwrap_or, Result, Ok}
use Rattle.std.specs.BTreeMap.{insert_entry}
use Rattle.std.specs.Str.{bytes_eq}
use Rattle.sc_ast.specs.declared.place.Place.{Place}
use Rattle.sc_ast.specs.declared.expr.Expr.{Expr, Expr-F, out-Expr}
use Rattle.sc_ast.specs.declared.expr.Expr.TheOpen as e
use Rattle.sc_ast.specs.declared.expr.TypeName.{TypeName}
use Rattle.sc_ast.specs.declared.expr.Variable.{Variable}
use Rattle.sc_ast.specs.declared.expr.Variable.TheVariants.{Principal, Action, Resource, Context}
use Rattle.sc_ast.specs.declared.literal.Literal.{Literal}
use Rattle.sc_ast.specs.declared.literal.Literal.TheVariants as literal
use Rattle.sc_ast.specs.declared.operator.BinaryOperator.{BinaryOperator}
use Rattle.sc_ast.specs.declared.operator.BinaryOperator.TheVariants.{In}
use Rattle.sc_ast.specs.declared.operator.UnaryOperator.{UnaryOperator}
use Rattle.sc_names.specs.Uids.{text_cmp}
use Rattle.sc_pattern.specs.declared.part.Part.{Part}
use Rattle.sc_schema.specs.declared.declarations.Env.{Env}
use Rattle.sc_schema.specs.declared.ty.Presence.TheVariants.{Required}
use Rattle.sc_schema.specs.declared.ty.Ty.{Ty}
use Rattle.sc_schema.specs.declared.ty.Ty.TheVariants as ty
use Rattle.sc_schema.specs.Declarations.{Declarations, context_of, kind_of}
use Rattle.sc_typed.specs.declared.fault.TypeFault.{TypeFault}
use Rattle.sc_typed.specs.declared.fault.TypeRule.TheVariants.{EmptySet, NoAttribute, MaybeAbsent}
use Rattle.sc_typed.specs.declared.outcome.Typed.{Typed}
use Rattle.sc_typed.specs.declared.typed_expr.TypedExpr.{TypedExpr}
use Rattle.sc_typed.specs.declared.typed_expr.TypedExpr.TheVariants as typed
use Rattle.sc_typed.specs.TypedExprs.{place_of}
use Rattle.sc_typed.specs.Types.{Field, is_true, is_false, truth, attribute, is_required}
use Rattle.sc_typed.specs.Capabilities.{Capabilities, bare, attribute_of, is_known, common}
use Rattle.sc_typed.specs.Outcomes.{Outcome, ◌>>=◌, made, gives, fails, as_boolean, as_string, as_entity, as_object, joined}
use Rattle.sc_typed.specs.Outcomes as outcome
use Rattle.sc_typing_rules.specs.Operators.{binary, given_by, unary, within, decided}
use Rattle.sc_typing_rules.specs.Paths.{Subject, no_names, along}

-- what an expression gives under capabilities
abbrev pub Meaning : Type 0
Meaning = Capabilities → Outcome

-- an expression inside another one: itself, and what it gives
pub record Operand : Type 0 where
  pub expr : Expr
  pub typed : Meaning

-- ---- `if c then a else b`

-- c is true, and b is skipped
abbrev pub first_branch : Place → Typed → Typed → Expr → Typed
first_branch place c a b = made (typed.If place (outcome.ty a.expr) c.expr a.expr (typed.Skipped b))
    (c.given ++ a.given)

-- c is false, and a is skipped
abbrev pub second_branch : Place → Typed → Expr → Typed → Typed
second_branch place c a b = made (typed.If place (outcome.ty b.expr) c.expr (typed.Skipped a) b.expr) b.given

-- c may be true or false: the types of a and b join, and what c and a give is given where b gives it too
abbrev pub branches : Place → Typed → Typed → Typed → Outcome
branches place c a b =
    as_boolean c.expr >>= λ p.
    joined place (outcome.ty a.expr) (outcome.ty b.expr) >>= λ type.
    gives (typed.If place type c.expr a.expr b.expr) (common (c.given ++ a.given) b.given)

-- both branches are typed, the first one with what c gives
abbrev pub choice_open : Place → Typed → Operand → Operand → Meaning
choice_open place x a b known = a.typed (known ++ x.given) >>= λ y. b.typed known >>= λ z. branches place x y z

abbrev pub choice : Place → Operand → Operand → Operand → Meaning
choice place c a b known =
    c.typed known >>= λ x.
    if is_true (outcome.ty x.expr) then (a.typed (known ++ x.given) >>= λ y. Ok (first_branch place x y b.expr))
    else (if is_false (outcome.ty x.expr) then (b.typed known >>= λ z. Ok (second_branch place x a.expr z))
    else choice_open place x a b known)

-- ---- `a || b`

abbrev pub or_type : TypedExpr → TypedExpr → Ty
or_type x y = if is_false (outcome.ty x) then outcome.ty y else (if is_true (outcome.ty y) then ty.True else ty.Bool)

abbrev pub or_given : Typed → Typed → Capabilities
or_given x y =
    if is_false (outcome.ty x.expr) then y.given
    else (if is_true (outcome.ty y.expr) then []
    else (if is_false (outcome.ty y.expr) then x.given
    else common x.given y.given))

abbrev pub disjunction : Place → Typed → Typed → Outcome
disjunction place x y =
    as_boolean x.expr >>= λ p.
    as_boolean y.expr >>= λ q.
    gives (typed.Or place (or_type x.expr y.expr) x.expr y.expr) (or_given x y)

-- where a is true, b is skipped
abbrev pub either : Place → Operand → Operand → Meaning
either place a b known =
    a.typed known >>= λ x.
    if is_true (outcome.ty x.expr) then gives (typed.Or place ty.True x.expr (typed.Skipped b.expr)) []
    else (b.typed known >>= λ y. disjunction place x y)

-- ---- `a && b`

abbrev pub and_type : TypedExpr → TypedExpr → Ty
and_type x y = if is_false (outcome.ty y) then ty.False else (if is_true (outcome.ty y) then outcome.ty x else ty.Bool)

abbrev pub and_given : Typed → Typed → Capabilities
and_given x y = if is_false (outcome.ty y.expr) then [] else x.given ++ y.given

abbrev pub conjunction : Place → Typed → Typed → Outcome
conjunction place x y =
    as_boolean x.expr >>= λ p.
    as_boolean y.expr >>= λ q.
    gives (typed.And place (and_type x.expr y.expr) x.expr y.expr) (and_given x y)

-- where a is false, b is skipped; b is typed with what a gives
abbrev pub both : Place → Operand → Operand → Meaning
both place a b known =
    a.typed known >>= λ x.
    if is_false (outcome.ty x.expr) then gives (typed.And place ty.False x.expr (typed.Skipped b.expr)) []
    else (b.typed (known ++ x.given) >>= λ y. conjunction place x y)

-- ---- literals and variables

abbrev pub literal_type : Declarations → Literal → Ty
literal_type s (literal.Bool b) = truth b
literal_type s (literal.Long n) = ty.Long
literal_type s (literal.String text) = ty.String
literal_type s (literal.Entity u) = ty.Entity (kind_of s u.type_name)

abbrev pub literal_typed : Declarations → Place → Literal → TypedExpr
literal_typed s place l = typed.Literal place (literal_type s l) l

-- the types of the environment
abbrev pub variable_type : Declarations → Env → Variable → Ty
variable_type s env Principal = ty.Entity (kind_of s env.principal)
variable_type s env Action = ty.Entity (kind_of s env.action.type_name)
variable_type s env Resource = ty.Entity (kind_of s env.resource)
variable_type s env Context = unwrap_or (context_of s env.action) (ty.Record [])

-- ---- an operator with two operands

-- an expression that is a literal, with its type
abbrev pub leaf_in : Declarations → Expr → Expr-F Expr → TypedExpr
leaf_in s x (e.Literal place l) = literal_typed s place l
leaf_in s x _ = typed.Skipped x

abbrev pub leaf : Declarations → Expr → TypedExpr
leaf s x = leaf_in s x (out-Expr x)

abbrev pub first_type : List TypedExpr → Ty
first_type [] = ty.False
first_type (x ∷ xs) = outcome.ty x

-- a literal or a set of literals with their types; those of the members don't join, the set has that of the first one
abbrev pub leaves_in : Declarations → Expr → Expr-F Expr → TypedExpr
leaves_in s x (e.Set place members) =
    typed.Set place (ty.Set (first_type (map (leaf s) members))) (map (leaf s) members)
leaves_in s x layer = leaf_in s x layer

abbrev pub leaves : Declarations → Expr → TypedExpr
leaves s x = leaves_in s x (out-Expr x)

-- the type of `in`, and its right side
abbrev pub with_right : Declarations → TypedExpr → TypedExpr → Result (Ty × TypedExpr) TypeFault
with_right s x y = within s x y >>= λ type. Ok (type, y)

abbrev pub right_side : Declarations → Operand → Capabilities → TypedExpr → Result (Ty × TypedExpr) TypeFault
right_side s b known x = b.typed known >>= λ y. with_right s x y.expr

abbrev pub membership_by : Option Bool → Declarations → Operand → Capabilities → TypedExpr
    → Result (Ty × TypedExpr) TypeFault
membership_by (Some is_in) s b known x = Ok (truth is_in, leaves s b.expr)
membership_by None s b known x = right_side s b known x

-- `a in b`, of a with its types
abbrev pub membership : Declarations → Expr → Operand → Capabilities → TypedExpr → Result (Ty × TypedExpr) TypeFault
membership s a b known x = membership_by (decided s a b.expr) s b known x

abbrev pub contained : Declarations → Place → Operand → Operand → Meaning
contained s place a b known =
    a.typed known >>= λ x. membership s a.expr b known x.expr >>= λ y. gives (typed.Binary place y.0 In x.expr y.1) []

-- an operator, of operands with their types
abbrev pub operation : Declarations → Capabilities → Place → BinaryOperator → Expr → Expr → TypedExpr
    → TypedExpr → Outcome
operation s known place operator a b x y =
    binary s known place operator a b x y >>= λ type. gives (typed.Binary place type operator x y)
    (given_by operator a b type)

abbrev pub computed : Declarations → Place → BinaryOperator → Operand → Operand → Meaning
computed s place operator a b known =
    a.typed known >>= λ x. b.typed known >>= λ y. operation s known place operator a.expr b.expr x.expr y.expr

abbrev pub operated : Declarations → Place → BinaryOperator → Operand → Operand → Meaning
operated s place In a b known = contained s place a b known
operated s place operator a b known = computed s place operator a b known

-- ---- `a has b.c.d`

-- the expression that the first name is asked of
abbrev pub subject : Expr → TypedExpr → Subject
subject a x = record { object = bare a; at = place_of x; type = outcome.ty x }

abbrev pub path_of : Declarations → Capabilities → Place → List (List ℕ) → Expr → TypedExpr → Outcome
path_of s known place names a x =
    along s place known (subject a x) no_names names >>= λ p. gives
    (typed.Has place p.found x p.steps p.skipped) p.given

abbrev pub having : Declarations → Place → List (List ℕ) → Operand → Meaning
having s place names a known = a.typed known >>= λ x. path_of s known place names a.expr x.expr

-- ---- `a like "pattern"`

abbrev pub match : Place → List Part → TypedExpr → Outcome
match place pattern x = as_string x >>= λ p. gives (typed.Like place ty.Bool x pattern) []

abbrev pub matching : Place → List Part → Operand → Meaning
matching place pattern a known = a.typed known >>= λ x. match place pattern x.expr

-- ---- `a is T`

-- whether an entity is of a type
abbrev pub is_of : TypeName → TypedExpr → Result Bool TypeFault
is_of t x = as_entity x >>= λ name. Ok (bytes_eq name t.name)

abbrev pub test : Place → TypeName → TypedExpr → Outcome
test place t x = is_of t x >>= λ p. gives (typed.Is place (truth p) x t) []

abbrev pub tested : Place → TypeName → Operand → Meaning
tested place t a known = a.typed known >>= λ x. test place t x.expr

-- ---- `a is T in b`

-- where a isn't of the type T, b is skipped
abbrev pub tested_in : Declarations → Place → TypeName → Place → Operand → Operand → Meaning
tested_in s place t in_place a b known =
    a.typed known >>= λ x.
    is_of t x.expr >>= λ p.
    if p
    then (membership s a.expr b known x.expr >>= λ y. gives (typed.IsIn place y.0 x.expr t in_place y.1) [])
    else gives (typed.IsIn place ty.False x.expr t in_place (typed.Skipped b.expr)) []

-- ---- an operator with one operand

abbrev pub application : Place → UnaryOperator → Expr → TypedExpr → Outcome
application place operator a x = unary place operator a x >>= λ type. gives (typed.Unary place type operator x) []

abbrev pub applied : Place → UnaryOperator → Operand → Meaning
applied place operator a known = a.typed known >>= λ x. application place operator a.expr x.expr

-- ---- `a.name`

-- an attribute that isn't declared, or is optional and not known to be there
abbrev pub read : Place → Option Field → Bool → Result Ty TypeFault
read place None known = fails NoAttribute place
read place (Some f) known = if is_required f || known then Ok f.2 else fails MaybeAbsent place

abbrev pub read_type : Declarations → Capabilities → Place → List ℕ → Expr → TypedExpr → Result Ty TypeFault
read_type s known place name a x =
    as_object s (place_of x) (outcome.ty x) >>= λ fields. read place (attribute name fields)
    (is_known known (attribute_of a name))

abbrev pub access : Declarations → Capabilities → Place → List ℕ → Expr → TypedExpr → Outcome
access s known place name a x = read_type s known place name a x >>= λ type. gives (typed.Access place type x name) []

abbrev pub accessed : Declarations → Place → List ℕ → Operand → Meaning
accessed s place name a known = a.typed known >>= λ x. access s known place name a.expr x.expr

-- ---- `[a, b]`

abbrev pub all_typed : List Operand → Capabilities → Result (List TypedExpr) TypeFault
all_typed [] known = Ok []
all_typed (a ∷ rest) known = a.typed known >>= λ x. all_typed rest known >>= λ xs. Ok (x.expr ∷ xs)

-- the type that a type and those of expressions join to, from left to right
abbrev pub all_joined : Place → Ty → List TypedExpr → Result Ty TypeFault
all_joined place type [] = Ok type
all_joined place type (x ∷ xs) = joined place type (outcome.ty x) >>= λ both. all_joined place both xs

abbrev pub member_type : Place → List TypedExpr → Result Ty TypeFault
member_type place [] = fails EmptySet place
member_type place (x ∷ xs) = all_joined place (outcome.ty x) xs

abbrev pub set_of : Place → List TypedExpr → Outcome
set_of place xs = member_type place xs >>= λ type. gives (typed.Set place (ty.Set type) xs) []

abbrev pub set_literal : Place → List Operand → Meaning
set_literal place members known = all_typed members known >>= λ xs. set_of place xs

-- ---- `{a: x, b: y}`

abbrev pub fields_typed : List (List ℕ × Operand) → Capabilities → Result (List (List ℕ × TypedExpr)) TypeFault
fields_typed [] known = Ok []
fields_typed (f ∷ fs) known = f.1.typed known >>= λ x. fields_typed fs known >>= λ xs. Ok ((f.0, x.expr) ∷ xs)

abbrev pub with_field : List (List ℕ × Ty) → List ℕ × TypedExpr → List (List ℕ × Ty)
with_field types f = insert_entry text_cmp types f.0 (outcome.ty f.1)

-- the types of fields in the order of names; all are required
abbrev pub record_type : List (List ℕ × TypedExpr) → Ty
record_type fields = ty.Record (map (λ (f : List ℕ × Ty). (f.0, Required, f.1)) (fold with_field [] fields))

abbrev pub record_literal : Place → List (List ℕ × Operand) → Meaning
record_literal place fields known =
    fields_typed fields known >>= λ xs. gives (typed.Record place (record_type xs) xs) []
