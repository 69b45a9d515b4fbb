-- What constructs are compiled to that look at what a schema declares: attributes, tags, ancestors, entities that are
-- written, and variables.
use Rattle.std.specs.Prelude.{ℕ, List, [], ◌∷◌, Bool, true, false, ◌&&◌, if◌then◌else◌, Option, Some, None, option_map, unwrap_or, is_some}
use Rattle.std.specs.List.{list_any}
use Rattle.std.specs.Option.{option_and_then}
use Rattle.std.specs.Str.{bytes_eq}
use Rattle.sc_ast.specs.declared.expr.Variable.{Variable}
use Rattle.sc_ast.specs.declared.expr.Variable.TheVariants.{Principal, Action, Resource, Context}
use Rattle.sc_ast.specs.declared.literal.Literal.{Literal}
use Rattle.sc_ast.specs.declared.literal.Literal.TheVariants as written
use Rattle.sc_names.specs.declared.uid.Uid.{Uid}
use Rattle.sc_schema.specs.declared.declarations.Env.{Env}
use Rattle.sc_schema.specs.declared.ty.Presence.{Presence}
use Rattle.sc_schema.specs.declared.ty.Presence.TheVariants.{Required, Optional}
use Rattle.sc_schema.specs.declared.ty.Ty.{Ty, Ty-F, out-Ty}
use Rattle.sc_schema.specs.declared.ty.Ty.TheOpen as t
use Rattle.sc_schema.specs.declared.ty.Ty.TheVariants as types
use Rattle.sc_schema.specs.Declarations.{Declarations, attrs_of, tags_of, ancestor_types, action_ancestors, context_of}
use Rattle.sc_sorts.specs.declared.sort.Sort.{Sort}
use Rattle.sc_sorts.specs.Entities.{choices_of, entity_sort}
use Rattle.sc_sorts.specs.OfTypes.{sort_of}
use Rattle.sc_typed.specs.declared.typed_expr.HasStep.{HasStep}
use Rattle.sc_typed.specs.declared.typed_expr.TypedExpr.{TypedExpr, TypedExpr-F, out-TypedExpr}
use Rattle.sc_typed.specs.declared.typed_expr.TypedExpr.TheOpen as typed
use Rattle.sc_typed.specs.Literals.{uid_in}
use Rattle.sc_typed.specs.Outcomes.{ty}
use Rattle.sc_typed.specs.Types.{Field, is_true, entity_name, attributes, attribute}
use Rattle.sc_sorts.specs.declared.node.Leaf.TheVariants as leafs
use Rattle.sc_sorts.specs.declared.node.Literal.TheVariants as literal
use Rattle.sc_sorts.specs.declared.node.UnaryOp.TheVariants as unary
use Rattle.sc_sorts.specs.declared.node.BinaryOp.TheVariants as binary
use Rattle.sc_terms.specs.Trees.{Tree, leaf, one, two}
use Rattle.sc_terms.specs.Folds.{literal_term, truth_term, and_term, or_term, equal_term, field_term, present_term, held_term}
use Rattle.sc_constructs.specs.Code.{Code, code, constant, after, after_both, where_so, only_where, and_code}

-- ---- attributes

-- whether a record or an entity of a type may lack an attribute; none where it never has it
abbrev pub presence_of : Declarations → Ty → List ℕ → Option Presence
presence_of s type name =
    option_and_then (λ (fields : List Field). option_map (λ (f : Field). f.1) (attribute name fields))
    (attributes s type)

-- the sort of the attributes of a type's entities
abbrev pub attributes_sort : Declarations → List ℕ → Sort
attributes_sort s name = sort_of (unwrap_or (attrs_of s name) (types.Record []))

-- the record that an attribute is read of
abbrev pub object_in : Declarations → Ty-F Ty → Tree → Tree
object_in s (t.Entity kind) a = one (unary.Attributes (attributes_sort s kind.name)) a
object_in s type a = a

abbrev pub field_of : Declarations → Ty → List ℕ → Tree → Tree
field_of s type name a = field_term name (object_in s (out-Ty type) a)

-- whether a field is there
abbrev pub has_term : Option Presence → Tree → Tree
has_term None f = truth_term false
has_term (Some Required) f = truth_term true
has_term (Some Optional) f = present_term f

-- `a has name`, of an object of a type
abbrev pub has_code : Declarations → Ty → List ℕ → Code → Code
has_code s type name a = after a (has_term (presence_of s type name) (field_of s type name a.val))

-- a field that is read. One that is never there isn't typed, so what it is compiled to is never asked
abbrev pub read_code : Option Presence → Code → Tree → Code
read_code (Some Optional) a f = code (and_term a.ok (present_term f)) (held_term f)
read_code (Some Required) a f = after a f
read_code None a f = after a f

-- `a.name`
abbrev pub access_code : Declarations → Ty → List ℕ → Code → Code
access_code s type name a = read_code (presence_of s type name) a (field_of s type name a.val)

-- `front && a has b && a.b has c`
abbrev pub along_code : Declarations → Code → Code → List HasStep → Code
along_code s front a [] = front
along_code s front a (step ∷ steps) =
    along_code s (and_code front (has_code s step.object step.name a)) (access_code s step.object step.name a) steps

-- `a has b.c` is `a has b && a.b has c`
abbrev pub path_code : Declarations → Code → List HasStep → Code
path_code s a [] = after a (truth_term true)
path_code s a (step ∷ steps) =
    along_code s (has_code s step.object step.name a) (access_code s step.object step.name a) steps

-- ---- tags

-- the type of an entity's tags
abbrev pub tag_type : Declarations → Ty → Option Ty
tag_type s type = option_and_then (tags_of s) (entity_name type)

abbrev pub has_key : Code → Code → Tree
has_key a b = two binary.Member b.val (one unary.Keys a.val)

abbrev pub has_tag_code : Option Ty → Code → Code → Code
has_tag_code (Some type) a b = after_both a b (has_key a b)
has_tag_code None a b = after_both a b (truth_term false)

-- a tag of an entity without tags isn't typed
abbrev pub get_tag_code : Option Ty → Code → Code → Code
get_tag_code (Some type) a b = where_so a b (has_key a b) (two (binary.Tag (sort_of type)) a.val b.val)
get_tag_code None a b = after_both a b (truth_term false)

-- ---- `in`

-- the ancestors of a type
abbrev pub above : Declarations → List ℕ → Tree → Tree
above s u a = one (unary.Ancestors (entity_sort s u)) a

-- entities of the first type may have ancestors of the second
abbrev pub may_be_above : Declarations → List ℕ → List ℕ → Bool
may_be_above s n u = list_any (bytes_eq u) (unwrap_or (ancestor_types s n) [])

-- an entity of type n is one of type u, or in it
abbrev pub in_one : Declarations → List ℕ → List ℕ → Tree → Tree → Tree
in_one s n u a b = or_term (only_where (bytes_eq n u) (equal_term a b))
    (only_where (may_be_above s n u) (two binary.Member b (above s u a)))

-- an entity of type n is a member of a set of entities of type u, or in one
abbrev pub in_some : Declarations → List ℕ → List ℕ → Tree → Tree → Tree
in_some s n u a b =
    or_term (only_where (bytes_eq n u) (two binary.Member a b))
    (only_where (may_be_above s n u) (two binary.Common (above s u a) b))

abbrev pub in_some_of : Declarations → List ℕ → Option (List ℕ) → Tree → Tree → Tree
in_some_of s n (Some u) a b = in_some s n u a b
in_some_of s n None a b = truth_term false

-- by the type of the right side
abbrev pub in_type : Declarations → List ℕ → Ty-F Ty → Tree → Tree → Tree
in_type s n (t.Entity kind) a b = in_one s n kind.name a b
in_type s n (t.Set member) a b = in_some_of s n (entity_name member) a b
in_type s n type a b = truth_term false

abbrev pub in_term : Declarations → Option (List ℕ) → Ty → Tree → Tree → Tree
in_term s (Some n) type a b = in_type s n (out-Ty type) a b
in_term s None type a b = truth_term false

-- ---- `in` of a declared action and of entities that are written, which typing decides

abbrev pub uid_at : TypedExpr-F TypedExpr → Option Uid
uid_at (typed.Literal place type l) = uid_in l
uid_at x = None

abbrev pub is_declared_action : Declarations → Option Uid → Bool
is_declared_action s (Some u) = is_some (action_ancestors s u)
is_declared_action s None = false

abbrev pub is_uid : TypedExpr → Bool
is_uid x = is_some (uid_at (out-TypedExpr x))

abbrev pub are_uids : List TypedExpr → Bool
are_uids [] = true
are_uids (x ∷ xs) = is_uid x && are_uids xs

abbrev pub are_some_uids : List TypedExpr → Bool
are_some_uids [] = false
are_some_uids (x ∷ xs) = are_uids (x ∷ xs)

abbrev pub is_group_in : TypedExpr-F TypedExpr → Bool
is_group_in (typed.Literal place type l) = is_some (uid_in l)
is_group_in (typed.Set place type members) = are_some_uids members
is_group_in x = false

abbrev pub is_decided : Declarations → TypedExpr → TypedExpr → Bool
is_decided s x y = is_declared_action s (uid_at (out-TypedExpr x)) && is_group_in (out-TypedExpr y)

-- `a in b`, whose type is the first one
abbrev pub in_code : Declarations → Ty → TypedExpr → TypedExpr → Code → Code → Code
in_code s type x y a b =
    if is_decided s x y then constant (is_true type)
    else after_both a b (in_term s (entity_name (ty x)) (ty y) a.val b.val)

-- ---- entities that are written, and variables

-- beside an entity stand those that its type lists
abbrev pub entity_term : Declarations → Uid → Tree
entity_term s u = literal_term (literal.Entity u (choices_of s u.type_name))

abbrev pub written_term : Declarations → Literal → Tree
written_term s (written.Bool b) = truth_term b
written_term s (written.Long n) = literal_term (literal.Long n)
written_term s (written.String text) = literal_term (literal.String text)
written_term s (written.Entity u) = entity_term s u

abbrev pub context_sort : Declarations → Env → Sort
context_sort s env = sort_of (unwrap_or (context_of s env.action) (types.Record []))

abbrev pub variable_term : Declarations → Env → Variable → Tree
variable_term s env Principal = leaf (leafs.Principal (entity_sort s env.principal))
variable_term s env Action = entity_term s env.action
variable_term s env Resource = leaf (leafs.Resource (entity_sort s env.resource))
variable_term s env Context = leaf (leafs.Context (context_sort s env))
