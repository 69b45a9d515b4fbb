-- Tests of an operator on terms of given sorts: whether what it makes is a term.
use Rattle.std.specs.Prelude.{◌&&◌, ℕ, List, Bool, true, false, Option, Some, None, is_some, nat_le, nat_lt, length, ◌==◌}
use Rattle.std.specs.List.{list_any}
use Rattle.std.specs.Str.{bytes_eq}
use Rattle.sc_schema.specs.declared.ty.Ty.{Ty}
use Rattle.sc_schema.specs.Declarations.{Declarations, attrs_of, tags_of, ancestor_types}
use Rattle.sc_sorts.specs.declared.sort.Sort.{Sort, Sort-F, out-Sort}
use Rattle.sc_sorts.specs.declared.sort.Sort.TheOpen as s
use Rattle.sc_sorts.specs.contracts.sort.SortPartialEq.TheImpl.{ghosts as sorts}
use Rattle.sc_sorts.specs.Defaults.{is_option}
use Rattle.sc_sorts.specs.Entities.{entity_sort}
use Rattle.sc_sorts.specs.Inside.{SortField, name_in, fields_in}
use Rattle.sc_sorts.specs.OfTypes.{sort_of}
use Rattle.sc_sorts.specs.declared.node.UnaryOp.{UnaryOp}
use Rattle.sc_sorts.specs.declared.node.UnaryOp.TheVariants as unary
use Rattle.sc_sorts.specs.declared.node.BinaryOp.{BinaryOp}
use Rattle.sc_sorts.specs.declared.node.BinaryOp.TheVariants as binary
use Rattle.sc_terms.specs.Trees.{Tree, two, Labelled}
use Rattle.sc_terms.specs.TreeSorts.{tree_sort}
use Rattle.sc_term_laws.specs.Unfolded.{stays_not, stays_two, stays_choice, stays_equal, stays_field, stays_option, stays_literal}

-- ---- kinds of sorts

abbrev pub bool_level : Sort-F Sort → Bool
bool_level s.Bool = true
bool_level _ = false

abbrev pub long_level : Sort-F Sort → Bool
long_level s.Long = true
long_level _ = false

abbrev pub string_level : Sort-F Sort → Bool
string_level s.String = true
string_level _ = false

abbrev pub ip_level : Sort-F Sort → Bool
ip_level s.Ip = true
ip_level _ = false

abbrev pub number_level : Sort-F Sort → Bool
number_level s.Long = true
number_level s.Decimal = true
number_level _ = false

abbrev pub set_level : Sort-F Sort → Bool
set_level (s.Set member) = true
set_level _ = false

-- whether values of the sort have a bit at a place
abbrev pub place_level : Sort-F Sort → ℕ → Bool
place_level s.Long i = nat_lt i 64
place_level s.Decimal i = nat_lt i 64
place_level s.Ip i = nat_lt i 257
place_level _ i = false

abbrev pub is_bool : Sort → Bool
is_bool k = bool_level (out-Sort k)

abbrev pub is_long : Sort → Bool
is_long k = long_level (out-Sort k)

abbrev pub is_string : Sort → Bool
is_string k = string_level (out-Sort k)

abbrev pub is_ip : Sort → Bool
is_ip k = ip_level (out-Sort k)

abbrev pub is_number : Sort → Bool
is_number k = number_level (out-Sort k)

abbrev pub is_set : Sort → Bool
is_set k = set_level (out-Sort k)

abbrev pub has_place : Sort → ℕ → Bool
has_place k i = place_level (out-Sort k) i

-- whether a sort is one of sets with members of another
abbrev pub set_of_level : Sort-F Sort → Sort → Bool
set_of_level (s.Set member) k = sorts.eq member k
set_of_level _ k = false

abbrev pub is_set_of : Sort → Sort → Bool
is_set_of x k = set_of_level (out-Sort x) k

-- ---- sorts of a schema

-- whether a sort is that of a type's entities
abbrev pub entity_level : Declarations → Sort → Sort-F Sort → Bool
entity_level d k (s.Entity name choices) = sorts.eq k (entity_sort d name)
entity_level d k _ = false

abbrev pub is_entity_sort : Declarations → Sort → Bool
is_entity_sort d k = entity_level d k (out-Sort k)

abbrev pub name_of : Sort → List ℕ
name_of k = name_in (out-Sort k)

-- whether a sort is that of a type, where there is one
abbrev pub is_sort_of : Option Ty → Sort → Bool
is_sort_of None k = false
is_sort_of (Some t) k = sorts.eq k (sort_of t)

abbrev pub has_name : Option (List (List ℕ)) → List ℕ → Bool
has_name None name = false
has_name (Some names) name = list_any (bytes_eq name) names

abbrev pub is_above : Declarations → List ℕ → List ℕ → Bool
is_above d name above = has_name (ancestor_types d name) above

abbrev pub attributes_test : Declarations → Sort → Sort → Bool
attributes_test d own k = is_entity_sort d k && is_sort_of (attrs_of d (name_of k)) own

abbrev pub ancestors_test : Declarations → Sort → Sort → Bool
ancestors_test d own k = is_entity_sort d k && (is_entity_sort d own && is_above d (name_of k) (name_of own))

abbrev pub keys_test : Declarations → Sort → Bool
keys_test d k = is_entity_sort d k && is_some (tags_of d (name_of k))

abbrev pub tag_test : Declarations → Sort → Sort → Sort → Bool
tag_test d own k l = is_entity_sort d k && (is_string l && is_sort_of (tags_of d (name_of k)) own)

-- ---- sums and products

abbrev pub is_sum : Tree → Bool
is_sum (two binary.Add a b) = true
is_sum (two binary.Subtract a b) = true
is_sum _ = false

abbrev pub is_product : Tree → Bool
is_product (two binary.Multiply a b) = true
is_product _ = false

-- ---- operators, on terms of these sorts

abbrev pub has_field : List ℕ → Sort → Bool
has_field name k = list_any (λ (f : SortField). bytes_eq name f.0) (fields_in (out-Sort k))

abbrev pub unary_test : Declarations → UnaryOp → Sort → Tree → Bool
unary_test d unary.Not k a = is_bool k && stays_not a
unary_test d (unary.Bit i) k a = has_place k i && stays_literal a
unary_test d (unary.CarryIn i) k a = is_sum a && nat_le i 64
unary_test d (unary.ProductRow i j) k a = is_product a && (nat_le i 128 && nat_lt j 128)
unary_test d (unary.ProductCarry i j) k a = is_product a && (nat_lt i 128 && nat_le j 128)
unary_test d (unary.Attributes own) k a = attributes_test d own k
unary_test d (unary.Ancestors own) k a = ancestors_test d own k
unary_test d unary.Keys k a = keys_test d k
unary_test d (unary.Field name) k a = has_field name k && stays_field name a
unary_test d unary.Present k a = is_option k && stays_option a
unary_test d unary.Held k a = is_option k && stays_option a
unary_test d (unary.Like p) k a = is_string k && stays_literal a

abbrev pub both_long : Sort → Sort → Bool
both_long k l = is_long k && is_long l

abbrev pub both_bool : Sort → Sort → Bool
both_bool k l = is_bool k && is_bool l

abbrev pub both_numbers : Sort → Sort → Bool
both_numbers k l = is_number k && sorts.eq k l

abbrev pub both_sets : Sort → Sort → Bool
both_sets k l = is_set k && sorts.eq k l

abbrev pub binary_test : Declarations → BinaryOp → Sort → Sort → Tree → Tree → Bool
binary_test d binary.And k l a b = both_bool k l && stays_two a b
binary_test d binary.Or k l a b = both_bool k l && stays_two a b
binary_test d binary.Equal k l a b = sorts.eq k l && stays_equal a b
binary_test d binary.Add k l a b = both_long k l
binary_test d binary.Subtract k l a b = both_long k l
binary_test d binary.Multiply k l a b = both_long k l
binary_test d binary.AddOverflows k l a b = both_long k l
binary_test d binary.SubtractOverflows k l a b = both_long k l
binary_test d binary.MultiplyOverflows k l a b = both_long k l
binary_test d binary.Less k l a b = both_numbers k l
binary_test d binary.InRange k l a b = is_ip k && is_ip l
binary_test d (binary.Low i) k l a b = both_numbers k l && nat_le i 64
binary_test d (binary.Tag own) k l a b = tag_test d own k l
binary_test d binary.Member k l a b = is_set_of l k
binary_test d binary.Subset k l a b = both_sets k l
binary_test d binary.Common k l a b = both_sets k l
binary_test d binary.DifferencePick k l a b = both_sets k l
binary_test d binary.CommonPick k l a b = both_sets k l

-- a choice by a term of the first sort between terms of the others
abbrev pub choice_test : Sort → Sort → Sort → Tree → Tree → Tree → Bool
choice_test j k l c a b = is_bool j && (sorts.eq k l && stays_choice c a b)

-- ---- labels

-- whether a part has no label, and a term of this sort
abbrev pub member_test : Sort → Labelled → Bool
member_test k p = (length p.0 == 0) && sorts.eq (tree_sort p.1) k
