-- The value of a term in a world.
use Rattle.std.specs.Prelude.{◌≡◌, ⊤, ℕ, Bool, true, false, not, if◌then◌else◌, List, [], ◌∷◌, map, find, flat_map, Option, Some, None, unwrap_or, is_some, ℤ, pos, ◌+ℤ◌, ◌-ℤ◌, ◌*ℤ◌, int_lt}
use Rattle.std.specs.List.{list_all, list_any, filter}
use Rattle.std.specs.Int.{w64, int_wrap}
use Rattle.std.specs.Ordering.{is_eq}
use Rattle.std.specs.Map.{lookup}
use Rattle.std.specs.Str.{bytes_eq, chars}
use Rattle.std.specs.declared.cmp.Ordering.{Ordering}
use Rattle.std.specs.declared.cmp.Ordering.TheVariants.{Less, Equal, Greater}
use Rattle.sc_ip.specs.declared.ip.Ip.{Ip}
use Rattle.sc_ip.specs.declared.ip.Ip.TheVariants.{V4}
use Rattle.sc_ip.specs.Addresses.{is_in_range}
use Rattle.sc_names.specs.declared.uid.Uid.{Uid}
use Rattle.sc_pattern.specs.declared.part.Part.{Part}
use Rattle.sc_pattern.specs.Language.{is_match}
use Rattle.sc_values.specs.declared.value.Value.{Value, Value-F, out-Value}
use Rattle.sc_values.specs.declared.value.Value.TheVariants as value
use Rattle.sc_values.specs.declared.value.Value.TheOpen as v
use Rattle.sc_values.specs.Order.{value_cmp}
use Rattle.sc_values.specs.Records.{Fields, field}
use Rattle.sc_world.specs.declared.entity.EntityData.{EntityData}
use Rattle.sc_world.specs.declared.world.World.{World}
use Rattle.sc_world.specs.Stores.{stored}
use Rattle.sc_sorts.specs.declared.sort.Sort.{Sort, out-Sort}
use Rattle.sc_sorts.specs.Defaults.{is_option, default_of}
use Rattle.sc_sorts.specs.declared.node.Leaf.{Leaf}
use Rattle.sc_sorts.specs.declared.node.Leaf.TheVariants as leafs
use Rattle.sc_sorts.specs.declared.node.Literal.{Literal}
use Rattle.sc_sorts.specs.declared.node.Literal.TheVariants as literal
use Rattle.sc_sorts.specs.declared.node.UnaryOp.{UnaryOp}
use Rattle.sc_sorts.specs.declared.node.UnaryOp.TheVariants as unary
use Rattle.sc_sorts.specs.declared.node.BinaryOp.{BinaryOp}
use Rattle.sc_sorts.specs.declared.node.BinaryOp.TheVariants as binary
use Rattle.sc_sorts.specs.declared.node.ManyOp.{ManyOp}
use Rattle.sc_sorts.specs.declared.node.ManyOp.TheVariants as manys
use Rattle.sc_sorts.specs.declared.node.Node.{Node}
use Rattle.sc_bits.specs.Bits.{bit64}
use Rattle.sc_bits.specs.Addresses.{ip_bit}
use Rattle.sc_bits.specs.Adders.{leaves64}
use Rattle.sc_bits.specs.Plain.{sum_carry, difference_carry, low_bits_less, row_bit, row_carry}
use Rattle.sc_terms.specs.Trees.{Tree, leaf, one, two, choice, many, Trees, no_part, part, listed}
use Rattle.sc_terms.specs.Tables.{tree}
use Rattle.sc_sorts.specs.Inside.{name_in, field_sort, held_sort, member_sort}
use Rattle.sc_terms.specs.TreeSorts.{tree_sort}

-- a value, or an option of one
pub data Val : Type 0 where
  it : Value → Val
  maybe : Option Value → Val

abbrev pub yes : Bool → Val
yes b = it (value.Bool b)

-- ---- what is seen in a value, and something else where it is of another kind

abbrev pub bool_seen : Value-F Value → Option Bool
bool_seen (v.Bool b) = Some b
bool_seen _ = None

-- the truth value that it is
abbrev pub seen : Val → Option Bool
seen (it x) = bool_seen (out-Value x)
seen (maybe o) = None

-- whether it is `true`
unfoldable pub truth : Val → Bool
truth x = unwrap_or (seen x) false

-- the number that it is, or the ten-thousandths of a decimal number
abbrev pub number_seen : Value-F Value → ℤ
number_seen (v.Long n) = n
number_seen (v.Decimal n) = n
number_seen _ = pos 0

abbrev pub text_seen : Value-F Value → List ℕ
text_seen (v.String text) = text
text_seen _ = []

abbrev pub ip_seen : Value-F Value → Ip
ip_seen (v.Ip ip) = ip
ip_seen _ = V4 0 32

abbrev pub uid_seen : Value-F Value → Uid
uid_seen (v.Entity u) = u
uid_seen _ = record { type_name = []; id = [] }

abbrev pub members_seen : Value-F Value → List Value
members_seen (v.Set members) = members
members_seen _ = []

abbrev pub fields_seen : Value-F Value → Fields
fields_seen (v.Record fs) = fs
fields_seen _ = []

-- a bit of a number or of an address
abbrev pub bit_seen : Value-F Value → ℕ → Bool
bit_seen (v.Long n) i = bit64 n i
bit_seen (v.Decimal n) i = bit64 n i
bit_seen (v.Ip ip) i = ip_bit ip i
bit_seen _ i = false

-- whether a text matches a pattern
abbrev pub like_seen : Value-F Value → List Part → Bool
like_seen (v.String text) p = is_match p (chars text)
like_seen _ p = false

-- the value itself, and of an option the false one
abbrev pub value_in : Val → Value
value_in (it x) = x
value_in (maybe o) = value.Bool false

abbrev pub level : Val → Value-F Value
level x = out-Value (value_in x)

abbrev pub number_in : Val → ℤ
number_in x = number_seen (level x)

abbrev pub text_in : Val → List ℕ
text_in x = text_seen (level x)

abbrev pub uid_in : Val → Uid
uid_in x = uid_seen (level x)

abbrev pub ip_in : Val → Ip
ip_in x = ip_seen (level x)

abbrev pub members_in : Val → List Value
members_in x = members_seen (level x)

abbrev pub record_in : Val → Fields
record_in x = fields_seen (level x)

-- what an option holds
abbrev pub option_in : Val → Option Value
option_in (maybe o) = o
option_in (it x) = None

-- ---- connectives, on any values. What they give of values that are no truth values is what the folds give of such
-- terms.

abbrev pub not_seen : Option Bool → Val → Val
not_seen (Some b) x = yes (not b)
not_seen None x = x

unfoldable pub not_value : Val → Val
not_value x = not_seen (seen x) x

abbrev pub and_seen : Option Bool → Option Bool → Val → Val → Val
and_seen (Some true) d x y = y
and_seen (Some false) d x y = x
and_seen None (Some true) x y = x
and_seen None (Some false) x y = y
and_seen None None x y = x

unfoldable pub and_value : Val → Val → Val
and_value x y = and_seen (seen x) (seen y) x y

abbrev pub or_seen : Option Bool → Option Bool → Val → Val → Val
or_seen (Some true) d x y = x
or_seen (Some false) d x y = y
or_seen None (Some true) x y = y
or_seen None (Some false) x y = x
or_seen None None x y = x

unfoldable pub or_value : Val → Val → Val
or_value x y = or_seen (seen x) (seen y) x y

abbrev pub value_eq : Value → Value → Bool
value_eq x y = is_eq (value_cmp x y)

abbrev pub option_eq : Option Value → Option Value → Bool
option_eq None None = true
option_eq None (Some y) = false
option_eq (Some x) None = false
option_eq (Some x) (Some y) = value_eq x y

-- whether two are one
abbrev pub val_eq : Val → Val → Bool
val_eq (it x) (it y) = value_eq x y
val_eq (it x) (maybe p) = false
val_eq (maybe o) (it y) = false
val_eq (maybe o) (maybe p) = option_eq o p

abbrev pub equal_seen : Option Bool → Option Bool → Val → Val → Val
equal_seen (Some true) d x y = y
equal_seen (Some false) d x y = not_value y
equal_seen None (Some true) x y = x
equal_seen None (Some false) x y = not_value x
equal_seen None None x y = yes (val_eq x y)

unfoldable pub equal_value : Val → Val → Val
equal_value x y = equal_seen (seen x) (seen y) x y

abbrev pub choice_value : Val → Val → Val → Val
choice_value c x y = if truth c then x else y

-- ---- numbers

-- the operator and the values of two parts, where a term has two
abbrev pub Operands : Type 0
Operands = Option (BinaryOp × Val × Val)

-- the carry into bit i of a sum or a difference
abbrev pub carry_value : Operands → ℕ → Bool
carry_value (Some (binary.Add, x, y)) i = sum_carry (number_in x) (number_in y) i
carry_value (Some (binary.Subtract, x, y)) i = difference_carry (number_in x) (number_in y) i
carry_value _ i = false

abbrev pub row_value : Operands → ℕ → ℕ → Bool
row_value (Some (binary.Multiply, x, y)) i j = row_bit (number_in x) (number_in y) i j
row_value _ i j = false

abbrev pub product_carry_value : Operands → ℕ → ℕ → Bool
product_carry_value (Some (binary.Multiply, x, y)) i j = row_carry (number_in x) (number_in y) i j
product_carry_value _ i j = false

-- ---- entities

-- what is stored of an entity
abbrev pub entity_in : Val → World → Option EntityData
entity_in x w = stored (uid_in x) w.store

-- the stored attributes, and of an entity that isn't stored the default
abbrev pub attributes_value : Sort → Option EntityData → Value
attributes_value sort (Some e) = value.Record e.attrs
attributes_value sort None = default_of sort

-- the stored ancestors of a type
abbrev pub ancestors_value : List ℕ → Option EntityData → Value
ancestors_value name (Some e) =
    value.Set (map value.Entity (filter (λ (u : Uid). bytes_eq name u.type_name) e.ancestors))
ancestors_value name None = value.Set []

abbrev pub keys_value : Option EntityData → Value
keys_value (Some e) = value.Set (map (λ (f : List ℕ × Value). value.String f.0) e.tags)
keys_value None = value.Set []

abbrev pub tag_value : Sort → List ℕ → Option EntityData → Value
tag_value sort key (Some e) = unwrap_or (field key e.tags) (default_of sort)
tag_value sort key None = default_of sort

-- ---- records, options, sets

-- a field is an option where its sort is one of options; else the sort's default where the record lacks it
abbrev pub field_seen : Bool → Sort → Option Value → Val
field_seen true sort found = maybe found
field_seen false sort found = it (unwrap_or found (default_of sort))

abbrev pub field_value : List ℕ → Sort → Val → Val
field_value name sort x = field_seen (is_option sort) sort (field name (record_in x))

-- the default of a sort: of one of options the absent one
abbrev pub default_by : Bool → Value → Val
default_by true x = maybe None
default_by false x = it x

abbrev pub default_val : Sort → Val
default_val sort = default_by (is_option sort) (default_of sort)

-- what an option holds, or else the default of the sort of what it would hold
abbrev pub held_value : Sort → Option Value → Val
held_value sort None = default_val sort
held_value sort (Some x) = it x

-- a record lacks a field whose part is absent
abbrev pub field_of : List ℕ × Val → Fields
field_of (name, it x) = (name, x) ∷ []
field_of (name, maybe (Some x)) = (name, x) ∷ []
field_of (name, maybe None) = []

-- a member in its place of an ascending list, once
abbrev pub put_by : Ordering → Value → Value → List Value → List Value → List Value
put_by Less x y ys later = x ∷ y ∷ ys
put_by Equal x y ys later = y ∷ ys
put_by Greater x y ys later = y ∷ later

unfoldable pub put_value : Value → List Value → List Value
put_value x [] = x ∷ []
put_value x (y ∷ ys) = put_by (value_cmp x y) x y ys (put_value x ys)

unfoldable pub set_from : List Value → List Value
set_from [] = []
set_from (x ∷ xs) = put_value x (set_from xs)

abbrev pub has_member : List Value → Value → Bool
has_member members x = list_any (value_eq x) members

abbrev pub least : Sort → Option Value → Val
least sort found = it (unwrap_or found (default_of sort))

-- ---- terms

abbrev pub literal_value : Literal → Value
literal_value (literal.Bool b) = value.Bool b
literal_value (literal.Long n) = value.Long n
literal_value (literal.String text) = value.String text
literal_value (literal.Decimal n) = value.Decimal n
literal_value (literal.Ip ip) = value.Ip ip
literal_value (literal.Entity u choices) = value.Entity u

abbrev pub leaf_value : Leaf → World → Val
leaf_value (leafs.Literal l) w = it (literal_value l)
leaf_value (leafs.None held) w = maybe None
leaf_value (leafs.Principal sort) w = it (value.Entity w.request.principal)
leaf_value (leafs.Resource sort) w = it (value.Entity w.request.resource)
leaf_value (leafs.Context sort) w = it (value.Record w.request.context)

-- of the part's sort, its own operands, and its value
abbrev pub one_value : UnaryOp → Sort → Operands → Val → World → Val
one_value unary.Not sort p x w = not_value x
one_value (unary.Bit i) sort p x w = yes (bit_seen (level x) i)
one_value (unary.CarryIn i) sort p x w = yes (carry_value p i)
one_value (unary.ProductRow i j) sort p x w = yes (row_value p i j)
one_value (unary.ProductCarry i j) sort p x w = yes (product_carry_value p i j)
one_value (unary.Attributes own) sort p x w = it (attributes_value own (entity_in x w))
one_value (unary.Ancestors own) sort p x w = it (ancestors_value (name_in (out-Sort own)) (entity_in x w))
one_value unary.Keys sort p x w = it (keys_value (entity_in x w))
one_value (unary.Field name) sort p x w = field_value name (field_sort name sort) x
one_value unary.Present sort p x w = yes (is_some (option_in x))
one_value unary.Held sort p x w = held_value (held_sort sort) (option_in x)
one_value (unary.Like pattern) sort p x w = yes (like_seen (level x) pattern)

-- of the first part's sort, and the values of both
abbrev pub two_value : BinaryOp → Sort → Val → Val → World → Val
two_value binary.And sort x y w = and_value x y
two_value binary.Or sort x y w = or_value x y
two_value binary.Equal sort x y w = equal_value x y
two_value binary.Add sort x y w = it (value.Long (int_wrap w64 (number_in x +ℤ number_in y)))
two_value binary.Subtract sort x y w = it (value.Long (int_wrap w64 (number_in x -ℤ number_in y)))
two_value binary.Multiply sort x y w = it (value.Long (int_wrap w64 (number_in x *ℤ number_in y)))
two_value binary.AddOverflows sort x y w = yes (leaves64 (number_in x +ℤ number_in y))
two_value binary.SubtractOverflows sort x y w = yes (leaves64 (number_in x -ℤ number_in y))
two_value binary.MultiplyOverflows sort x y w = yes (leaves64 (number_in x *ℤ number_in y))
two_value binary.Less sort x y w = yes (int_lt (number_in x) (number_in y))
two_value binary.InRange sort x y w = yes (is_in_range (ip_in x) (ip_in y))
two_value (binary.Low i) sort x y w = yes (low_bits_less (number_in x) (number_in y) i)
two_value (binary.Tag own) sort x y w = it (tag_value own (text_in y) (entity_in x w))
two_value binary.Member sort x y w = yes (has_member (members_in y) (value_in x))
two_value binary.Subset sort x y w = yes (list_all (has_member (members_in y)) (members_in x))
two_value binary.Common sort x y w = yes (list_any (has_member (members_in y)) (members_in x))
two_value binary.DifferencePick sort x y w =
    least (member_sort sort) (find (λ (z : Value). not (has_member (members_in y) z)) (members_in x))
two_value binary.CommonPick sort x y w = least (member_sort sort) (find (has_member (members_in y)) (members_in x))

abbrev pub many_value : ManyOp → List (List ℕ × Val) → Val
many_value manys.Record xs = it (value.Record (flat_map field_of xs))
many_value (manys.Set member) xs = it (value.Set (set_from (map (λ (x : List ℕ × Val). value_in x.1) xs)))

unfoldable mutual
  -- the value of a term
  pub val : Tree → World → Val
  val (leaf l) w = leaf_value l w
  val (one o a) w = one_value o (tree_sort a) (operands a w) (val a w) w
  val (two o a b) w = two_value o (tree_sort a) (val a w) (val b w) w
  val (choice c a b) w = choice_value (val c w) (val a w) (val b w)
  val (many o ts) w = many_value o (vals ts w)

  -- the operator and the values of a term's two parts, where it has two
  pub operands : Tree → World → Operands
  operands (leaf l) w = None
  operands (one o a) w = None
  operands (two o a b) w = Some (o, val a w, val b w)
  operands (choice c a b) w = None
  operands (many o ts) w = None

  pub vals : Trees → World → List (List ℕ × Val)
  vals no_part w = []
  vals (part l t ts) w = (l, val t w) ∷ vals ts w

-- ---- records whose fields are as their sorts say

abbrev pub is_maybe : Val → Bool
is_maybe (it x) = false
is_maybe (maybe o) = true

-- each name comes once, and what a field has is an option just where its sort is one of options
abbrev pub HaveKinds : Trees → World → Type 0
HaveKinds no_part w = ⊤
HaveKinds (part l t ts) w = (lookup (bytes_eq l) (listed ts) ≡ None) × (is_maybe (val t w) ≡ is_option (tree_sort t))
    × HaveKinds ts w

-- of a term that is no record term nothing is asked
abbrev pub HasKinds : Tree → World → Type 0
HasKinds (many manys.Record ts) w = HaveKinds ts w
HasKinds _ w = ⊤

-- ---- values of numbers of a table

-- the value of a number's term in every world
pub record HasValue (xs : List Node) (n : ℕ) (f : World → Val) : Type 0 where
  pub at : (w : World) → val (tree xs n) w ≡ f w

-- in every world in which something holds
pub record HasValueWhere (xs : List Node) (n : ℕ) (P : World → Type 0) (f : World → Val) : Type 0 where
  pub at : (w : World) → P w → val (tree xs n) w ≡ f w
