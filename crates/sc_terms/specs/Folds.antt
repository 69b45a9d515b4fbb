-- The terms that the constructors make.
use Rattle.std.specs.Prelude.{⊤, ℕ, Bool, true, false, not, List, [], map, Option, Some, None, pos}
use Rattle.std.specs.Ordering.{is_gt}
use Rattle.std.specs.Map.{lookup}
use Rattle.std.specs.Str.{bytes_eq}
use Rattle.sc_pattern.specs.declared.part.Part.{Part}
use Rattle.sc_ip.specs.declared.ip.Ip.TheVariants.{V4}
use Rattle.sc_sorts.specs.declared.sort.Sort.{Sort, Sort-F, roll-Sort, map-Sort, fold-Sort}
use Rattle.sc_sorts.specs.declared.sort.Sort.TheOpen as s
use Rattle.sc_sorts.specs.Defaults.{default_uid}
use Rattle.sc_sorts.specs.declared.node.Leaf.TheVariants.{Literal}
use Rattle.sc_sorts.specs.declared.node.Leaf.TheVariants as leafs
use Rattle.sc_sorts.specs.declared.node.Literal.{Literal as AnyLiteral}
use Rattle.sc_sorts.specs.declared.node.Literal.TheVariants as literal
use Rattle.sc_sorts.specs.declared.node.UnaryOp.TheVariants as unary
use Rattle.sc_sorts.specs.declared.node.BinaryOp.TheVariants as binary
use Rattle.sc_sorts.specs.declared.node.ManyOp.TheVariants as manys
use Rattle.sc_sorts.specs.Literals.{same_entity, literal_bit, IsPlaceOf, literal_like}
use Rattle.sc_terms.specs.Trees.{Tree, leaf, one, two, choice, many, Trees, no_part, Labelled, listed, parts_of}
use Rattle.sc_terms.specs.Order.{tree_cmp, tree_eq}

abbrev pub literal_term : AnyLiteral → Tree
literal_term l = leaf (Literal l)

abbrev pub truth_term : Bool → Tree
truth_term b = literal_term (literal.Bool b)

-- the truth value that a term is
abbrev pub constant : Tree → Option Bool
constant (leaf (Literal (literal.Bool b))) = Some b
constant _ = None

-- the literal that a term is
abbrev pub literal_of : Tree → Option AnyLiteral
literal_of (leaf (Literal l)) = Some l
literal_of _ = None

-- what a negation negates
abbrev pub under_not : Tree → Option Tree
under_not (one unary.Not t) = Some t
under_not _ = None

-- a negation, given what is known of its part
abbrev pub not_by : Option Bool → Option Tree → Tree → Tree
not_by (Some b) u t = truth_term (not b)
not_by None (Some x) t = x
not_by None None t = one unary.Not t

unfoldable pub not_term : Tree → Tree
not_term t = not_by (constant t) (under_not t) t

-- of two terms, given the truth values that they are, and whether they are one
abbrev pub and_by : Option Bool → Option Bool → Bool → Tree → Tree → Tree
and_by (Some true) d same a b = b
and_by (Some false) d same a b = a
and_by None (Some true) same a b = a
and_by None (Some false) same a b = b
and_by None None true a b = a
and_by None None false a b = two binary.And a b

unfoldable pub and_term : Tree → Tree → Tree
and_term a b = and_by (constant a) (constant b) (tree_eq a b) a b

abbrev pub or_by : Option Bool → Option Bool → Bool → Tree → Tree → Tree
or_by (Some true) d same a b = a
or_by (Some false) d same a b = b
or_by None (Some true) same a b = b
or_by None (Some false) same a b = a
or_by None None true a b = a
or_by None None false a b = two binary.Or a b

unfoldable pub or_term : Tree → Tree → Tree
or_term a b = or_by (constant a) (constant b) (tree_eq a b) a b

abbrev pub choice_by : Option Bool → Bool → Tree → Tree → Tree → Tree
choice_by (Some true) same c a b = a
choice_by (Some false) same c a b = b
choice_by None true c a b = a
choice_by None false c a b = choice c a b

unfoldable pub choice_term : Tree → Tree → Tree → Tree
choice_term c a b = choice_by (constant c) (tree_eq a b) c a b

-- an equation with the lesser side first
abbrev pub equation : Bool → Tree → Tree → Tree
equation true a b = two binary.Equal b a
equation false a b = two binary.Equal a b

-- whether two terms that are no one have one value, where both are literals
abbrev pub literals_same : Option AnyLiteral → Option AnyLiteral → Option Bool
literals_same (Some l) (Some m) = Some (same_entity l m)
literals_same (Some l) None = None
literals_same None o = None

-- of two terms that are no truth values: given whether they are one, and whether two literals have one value
abbrev pub other_equal : Bool → Option Bool → Tree → Tree → Tree
other_equal true literals a b = truth_term true
other_equal false (Some same) a b = truth_term same
other_equal false None a b = equation (is_gt (tree_cmp a b)) a b

abbrev pub equal_by : Option Bool → Option Bool → Tree → Tree → Tree
equal_by (Some true) d a b = b
equal_by (Some false) d a b = not_term b
equal_by None (Some true) a b = a
equal_by None (Some false) a b = not_term a
equal_by None None a b = other_equal (tree_eq a b) (literals_same (literal_of a) (literal_of b)) a b

unfoldable pub equal_term : Tree → Tree → Tree
equal_term a b = equal_by (constant a) (constant b) a b

-- ---- records, options, bits, patterns

abbrev pub among_parts : List ℕ → Trees → Option Tree
among_parts name ts = lookup (bytes_eq name) (listed ts)

-- the component of a record term
abbrev pub component : List ℕ → Tree → Option Tree
component name (many manys.Record ts) = among_parts name ts
component name _ = None

abbrev pub field_by : Option Tree → List ℕ → Tree → Tree
field_by (Some t) name r = t
field_by None name r = one (unary.Field name) r

unfoldable pub field_term : List ℕ → Tree → Tree
field_term name r = field_by (component name r) name r

-- what the absent option that a term is would hold
abbrev pub absent : Tree → Option Sort
absent (leaf (leafs.None held)) = Some held
absent _ = None

abbrev pub present_by : Option Sort → Tree → Tree
present_by (Some held) t = truth_term false
present_by None t = one unary.Present t

unfoldable pub present_term : Tree → Tree
present_term t = present_by (absent t) t

-- ---- the default of a sort. Each sort inside is seen beside its default.

abbrev pub Seen : Type 0
Seen = Sort × Tree

abbrev pub sorts_seen : Sort-F Seen → Sort-F Sort
sorts_seen = map-Sort Seen Sort (λ x. x.0)

abbrev pub default_step : Sort-F Seen → Tree
default_step s.Bool = truth_term false
default_step s.Long = literal_term (literal.Long (pos 0))
default_step s.String = literal_term (literal.String [])
default_step s.Decimal = literal_term (literal.Decimal (pos 0))
default_step s.Ip = literal_term (literal.Ip (V4 0 32))
default_step (s.Entity name choices) = literal_term (literal.Entity (default_uid name choices) choices)
default_step (s.Set member) = many (manys.Set member.0) no_part
default_step (s.Record fields) = many manys.Record (parts_of (map (λ (f : List ℕ × Seen). (f.0, f.1.1)) fields))
default_step (s.Option held) = leaf (leafs.None held.0)

abbrev pub seen_step : Sort-F Seen → Seen
seen_step x = (roll-Sort (sorts_seen x), default_step x)

-- the default of a sort: a literal, the empty set, or a record whose optional fields are absent
unfoldable pub default_term : Sort → Tree
default_term x = (fold-Sort Seen seen_step x).1

-- of a record sort
abbrev pub default_parts : List (List ℕ × Sort) → Tree
default_parts fields = many manys.Record (parts_of (map (λ (f : List ℕ × Sort). (f.0, default_term f.1)) fields))

abbrev pub held_by : Option Sort → Tree → Tree
held_by (Some held) t = default_term held
held_by None t = one unary.Held t

unfoldable pub held_term : Tree → Tree
held_term t = held_by (absent t) t

-- ---- a bit of a literal

abbrev pub IsPlaceIn : Tree → ℕ → Type 0
IsPlaceIn (leaf (Literal l)) i = IsPlaceOf l i
IsPlaceIn _ i = ⊤

abbrev pub bit_by : Option AnyLiteral → Tree → ℕ → Tree
bit_by (Some l) t i = truth_term (literal_bit l i)
bit_by None t i = one (unary.Bit i) t

unfoldable pub bit_term : Tree → ℕ → Tree
bit_term t i = bit_by (literal_of t) t i

-- ---- a pattern of a literal

abbrev pub like_by : Option AnyLiteral → Tree → List Part → Tree
like_by (Some l) t p = truth_term (literal_like l p)
like_by None t p = one (unary.Like p) t

unfoldable pub like_term : Tree → List Part → Tree
like_term t p = like_by (literal_of t) t p

-- ---- terms that fold nothing

-- a set's parts have no labels
abbrev pub without_label : Tree → Labelled
without_label t = ([], t)

abbrev pub set_term : Sort → List Tree → Tree
set_term member ts = many (manys.Set member) (parts_of (map without_label ts))

abbrev pub record_term : List Labelled → Tree
record_term fields = many manys.Record (parts_of fields)
