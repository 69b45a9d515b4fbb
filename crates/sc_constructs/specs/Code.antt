-- What an expression is compiled to, and what each construct makes of what its operands are compiled to, in the order
-- of the grammar. `ok` joins in the order in which operands are evaluated.
use Rattle.std.specs.Prelude.{ℕ, List, [], ◌∷◌, map, fold, Bool, true, false, Option, Some, None, pos}
use Rattle.std.specs.BTreeMap.{insert_entry}
use Rattle.sc_ip.specs.declared.ip.Ip.{Ip}
use Rattle.sc_ip.specs.declared.ip.Ip.TheVariants.{V4, V6}
use Rattle.sc_names.specs.Uids.{text_cmp}
use Rattle.sc_pattern.specs.declared.part.Part.{Part}
use Rattle.sc_sorts.specs.declared.sort.Sort.{Sort}
use Rattle.sc_sorts.specs.declared.sort.Sort.TheVariants as sort
use Rattle.sc_sorts.specs.contracts.sort.SortPartialEq.TheImpl as equality
use Rattle.sc_sorts.specs.Inside.{member_sort}
use Rattle.sc_sorts.specs.declared.node.Literal.{Literal}
use Rattle.sc_sorts.specs.declared.node.Literal.TheVariants as literal
use Rattle.sc_sorts.specs.declared.node.BinaryOp.TheVariants as binary
use Rattle.sc_terms.specs.Trees.{Tree, Labelled, two}
use Rattle.sc_terms.specs.TreeSorts.{tree_sort}
use Rattle.sc_terms.specs.Folds.{literal_term, truth_term, not_term, and_term, or_term, choice_term, equal_term, bit_term, like_term, set_term, record_term}
use Rattle.sc_terms.specs.Joined.{all_of}

-- where there is no error, and the value there
pub record Code : Type 0 where
  pub ok : Tree
  pub val : Tree

abbrev pub code : Tree → Tree → Code
code ok val = record { ok = ok; val = val }

-- a value that always comes
abbrev pub always : Tree → Code
always t = code (truth_term true) t

abbrev pub constant : Bool → Code
constant b = always (truth_term b)

-- a value that comes where that of an operand does
abbrev pub after : Code → Tree → Code
after a t = code a.ok t

-- a value that comes where those of two operands do
abbrev pub after_both : Code → Code → Tree → Code
after_both a b t = code (and_term a.ok b.ok) t

-- the same, where something else is so too
abbrev pub where_so : Code → Code → Tree → Tree → Code
where_so a b so t = code (and_term a.ok (and_term b.ok so)) t

-- a term where something is so by the types, and else `false`
abbrev pub only_where : Bool → Tree → Tree
only_where true t = t
only_where false t = truth_term false

-- ---- `if`, `||`, `&&`, `!`

abbrev pub choice_code : Code → Code → Code → Code
choice_code c a b = code (and_term c.ok (choice_term c.val a.ok b.ok)) (choice_term c.val a.val b.val)

-- a branch that is always taken
abbrev pub branch_code : Code → Code → Code
branch_code c a = after_both c a a.val

abbrev pub or_code : Code → Code → Code
or_code a b = code (and_term a.ok (or_term a.val b.ok)) (or_term a.val b.val)

abbrev pub and_code : Code → Code → Code
and_code a b = code (and_term a.ok (or_term (not_term a.val) b.ok)) (and_term a.val b.val)

abbrev pub not_code : Code → Code
not_code a = after a (not_term a.val)

-- ---- numbers. Of decimal numbers the comparisons are the same

abbrev pub less : Tree → Tree → Tree
less a b = two binary.Less a b

abbrev pub less_code : Code → Code → Code
less_code a b = after_both a b (less a.val b.val)

abbrev pub less_or_equal_code : Code → Code → Code
less_or_equal_code a b = after_both a b (not_term (less b.val a.val))

abbrev pub greater_code : Code → Code → Code
greater_code a b = after_both a b (less b.val a.val)

abbrev pub greater_or_equal_code : Code → Code → Code
greater_or_equal_code a b = after_both a b (not_term (less a.val b.val))

abbrev pub sum_code : Code → Code → Code
sum_code a b = where_so a b (not_term (two binary.AddOverflows a.val b.val)) (two binary.Add a.val b.val)

abbrev pub difference_code : Code → Code → Code
difference_code a b = where_so a b (not_term (two binary.SubtractOverflows a.val b.val))
    (two binary.Subtract a.val b.val)

abbrev pub product_code : Code → Code → Code
product_code a b = where_so a b (not_term (two binary.MultiplyOverflows a.val b.val)) (two binary.Multiply a.val b.val)

abbrev pub zero_code : Code
zero_code = always (literal_term (literal.Long (pos 0)))

-- `-a` is `0 - a`
abbrev pub negative_code : Code → Code
negative_code a = difference_code zero_code a

-- ---- `==`

-- two sorts are one
unfoldable pub same_sort : Sort → Sort → Bool
same_sort = equality.ghosts.eq

abbrev pub equal_code : Code → Code → Code
equal_code a b = after_both a b (only_where (same_sort (tree_sort a.val) (tree_sort b.val)) (equal_term a.val b.val))

-- ---- sets

abbrev pub contains_code : Code → Code → Code
contains_code a b = after_both a b (two binary.Member b.val a.val)

abbrev pub contains_all_code : Code → Code → Code
contains_all_code a b = after_both a b (two binary.Subset b.val a.val)

abbrev pub contains_any_code : Code → Code → Code
contains_any_code a b = after_both a b (two binary.Common a.val b.val)

-- within the empty set
abbrev pub is_empty_code : Code → Code
is_empty_code a = after a (two binary.Subset a.val (set_term (member_sort (tree_sort a.val)) []))

-- ---- addresses

abbrev pub is_version_6_code : Code → Code
is_version_6_code a = after a (bit_term a.val 0)

abbrev pub is_version_4_code : Code → Code
is_version_4_code a = after a (not_term (bit_term a.val 0))

abbrev pub in_range_code : Code → Code → Code
in_range_code a b = after_both a b (two binary.InRange a.val b.val)

abbrev pub within : Ip → Tree → Tree
within range a = two binary.InRange a (literal_term (literal.Ip range))

-- within one of two ranges
abbrev pub in_either_code : Ip → Ip → Code → Code
in_either_code r q a = after a (or_term (within r a.val) (within q a.val))

abbrev pub is_loopback_code : Code → Code
is_loopback_code a = in_either_code (V4 0x7f00_0000 8) (V6 1 128) a

abbrev pub is_multicast_code : Code → Code
is_multicast_code a = in_either_code (V4 0xe000_0000 4) (V6 0xff00_0000_0000_0000_0000_0000_0000_0000 8) a

-- ---- texts

abbrev pub like_code : List Part → Code → Code
like_code pattern a = after a (like_term a.val pattern)

-- what a text spells. A call whose text spells nothing isn't typed, so what it is compiled to is never asked
abbrev pub spelled_code : Option Literal → Code
spelled_code (Some l) = always (literal_term l)
spelled_code None = constant false

-- ---- `is`

abbrev pub is_code : Bool → Code → Code
is_code b a = after a (truth_term b)

-- ---- `[a, b]` and `{a: x, b: y}`

abbrev pub oks : List Code → List Tree
oks cs = map (λ (c : Code). c.ok) cs

abbrev pub vals : List Code → List Tree
vals cs = map (λ (c : Code). c.val) cs

-- all members are of one sort
abbrev pub first_sort : List Tree → Sort
first_sort [] = sort.Bool
first_sort (t ∷ ts) = tree_sort t

abbrev pub set_code : List Code → Code
set_code cs = code (all_of (oks cs)) (set_term (first_sort (vals cs)) (vals cs))

abbrev pub CodeField : Type 0
CodeField = List ℕ × Code

abbrev pub field_codes : List CodeField → List Code
field_codes fs = map (λ (f : CodeField). f.1) fs

abbrev pub with_part : List Labelled → CodeField → List Labelled
with_part parts f = insert_entry text_cmp parts f.0 f.1.val

-- the fields' terms in the order of names; of two fields of one name the last stays
abbrev pub in_order : List CodeField → List Labelled
in_order fs = fold with_part [] fs

-- `ok` joins in the order in which the fields are written
abbrev pub record_code : List CodeField → Code
record_code fs = code (all_of (oks (field_codes fs))) (record_term (in_order fs))
