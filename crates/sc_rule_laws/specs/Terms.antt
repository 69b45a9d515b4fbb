-- Words for the terms that rules speak of.
use Rattle.std.specs.Prelude.{Bool, true, false, List, [], map, Option, Some, None}
use Rattle.sc_names.specs.declared.uid.Uid.{Uid}
use Rattle.sc_schema.specs.Declarations.{Declarations}
use Rattle.sc_sorts.specs.declared.sort.Sort.{Sort, Sort-F, out-Sort}
use Rattle.sc_sorts.specs.declared.sort.Sort.TheOpen as s
use Rattle.sc_sorts.specs.contracts.sort.SortPartialEq.TheImpl.{ghosts as sorts}
use Rattle.sc_sorts.specs.Defaults.{is_option as option_sort}
use Rattle.sc_sorts.specs.Entities.{choices_of}
use Rattle.sc_sorts.specs.Inside.{SortFields}
use Rattle.sc_sorts.specs.declared.node.Literal.TheVariants as literal
use Rattle.sc_sorts.specs.declared.node.UnaryOp.TheVariants as unary
use Rattle.sc_sorts.specs.declared.node.BinaryOp.TheVariants as binary
use Rattle.sc_sorts.specs.declared.node.ManyOp.TheVariants as manys
use Rattle.sc_terms.specs.Trees.{Tree, one, two, many, Trees, listed, Labelled}
use Rattle.sc_terms.specs.TreeSorts.{tree_sort}
use Rattle.sc_terms.specs.Folds.{literal_term}
use Rattle.sc_term_laws.specs.Tests as sort

-- ---- sorts

-- two terms have one sort
abbrev pub one_sort : Tree → Tree → Bool
one_sort a b = sorts.eq (tree_sort a) (tree_sort b)

-- strings and entities, of which each two are equated
abbrev pub is_named_level : Sort-F Sort → Bool
is_named_level s.String = true
is_named_level (s.Entity name choices) = true
is_named_level _ = false

abbrev pub is_named : Tree → Bool
is_named t = is_named_level (out-Sort (tree_sort t))

abbrev pub is_string : Tree → Bool
is_string t = sort.is_string (tree_sort t)

abbrev pub is_option : Tree → Bool
is_option t = option_sort (tree_sort t)

abbrev pub is_set : Tree → Bool
is_set t = sort.is_set (tree_sort t)

-- the fields of a record, by name
abbrev pub fields_level : Sort-F Sort → Option SortFields
fields_level (s.Record fields) = Some fields
fields_level _ = None

abbrev pub fields_of : Tree → Option SortFields
fields_of t = fields_level (out-Sort (tree_sort t))

-- the entities that a sort lists: the declared ones of a type of actions, the choices of an enumerated type
abbrev pub choices_level : Sort-F Sort → List Uid
choices_level (s.Entity name choices) = choices
choices_level _ = []

abbrev pub choices_in : Tree → List Uid
choices_in t = choices_level (out-Sort (tree_sort t))

-- ---- sets

abbrev pub member : Tree → Tree → Tree
member x s = two binary.Member x s

abbrev pub subset : Tree → Tree → Tree
subset s t = two binary.Subset s t

abbrev pub common : Tree → Tree → Tree
common s t = two binary.Common s t

-- the least member of s that isn't in t
abbrev pub missing : Tree → Tree → Tree
missing s t = two binary.DifferencePick s t

-- the least member of both
abbrev pub shared : Tree → Tree → Tree
shared s t = two binary.CommonPick s t

-- the members of a set term, from left to right
abbrev pub members : Trees → List Tree
members ts = map (λ (x : Labelled). x.1) (listed ts)

-- those of a set that is written as a set term
abbrev pub written : Tree → Option (List Tree)
written (many (manys.Set k) ts) = Some (members ts)
written _ = None

-- ---- entities

-- the ancestors of an entity, of a sort
abbrev pub above : Sort → Tree → Tree
above k e = one (unary.Ancestors k) e

abbrev pub keys : Tree → Tree
keys e = one unary.Keys e

-- an entity by its uid
abbrev pub entity : Declarations → Uid → Tree
entity d u = literal_term (literal.Entity u (choices_of d u.type_name))
