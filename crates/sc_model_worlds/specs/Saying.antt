-- Which closed term says what is sought.
use Rattle.std.specs.Prelude.{◌≡◌, ◌&&◌, ℕ, Bool, true, false, List, [], ◌∷◌, Option, Some, None, if◌then◌else◌, refl}
use Rattle.std.specs.Str.{bytes_eq}
use Rattle.sc_names.specs.declared.uid.Uid.{Uid}
use Rattle.sc_schema.specs.Declarations.{uid_eq}
use Rattle.sc_sorts.specs.declared.sort.Sort.{Sort}
use Rattle.sc_sorts.specs.declared.node.Leaf.TheVariants as leafs
use Rattle.sc_sorts.specs.declared.node.UnaryOp.TheVariants as unary
use Rattle.sc_sorts.specs.declared.node.BinaryOp.TheVariants as binary
use Rattle.sc_terms.specs.Trees.{Tree, leaf, one, two}
use Rattle.sc_terms.specs.TreeSorts.{tree_sort}
use Rattle.sc_terms.specs.Tables.{tree}
use Rattle.sc_term_laws.specs.Tests.{name_of}
use Rattle.sc_footprint.specs.Problems.{Posed}
use Rattle.sc_model_values.specs.Models.{name_in}
use Rattle.sc_model_worlds.specs.declared.sought.Sought.{Sought}
use Rattle.sc_model_worlds.specs.declared.sought.Sought.TheVariants.{Principal, Resource, Context, Attributes, Tag}

-- the entity of a term
abbrev pub uid_in : Posed → List (List ℕ) → Tree → Uid
uid_in p names t = record { type_name = name_of (tree_sort t); id = name_in p names t }

abbrev pub is_principal : Tree → Bool
is_principal (leaf (leafs.Principal k)) = true
is_principal _ = false

abbrev pub is_resource : Tree → Bool
is_resource (leaf (leafs.Resource k)) = true
is_resource _ = false

abbrev pub is_context : Tree → Bool
is_context (leaf (leafs.Context k)) = true
is_context _ = false

-- the attributes of a term of this entity
abbrev pub are_attributes : Posed → List (List ℕ) → Uid → Tree → Bool
are_attributes p names u (one (unary.Attributes own) e) = uid_eq (uid_in p names e) u
are_attributes p names u _ = false

-- the tag of a term of this entity under a term of this key
abbrev pub is_tag : Posed → List (List ℕ) → Uid → List ℕ → Tree → Bool
is_tag p names u key (two (binary.Tag own) e k) = uid_eq (uid_in p names e) u && bytes_eq (name_in p names k) key
is_tag p names u key _ = false

abbrev pub says : Posed → List (List ℕ) → Sought → Tree → Bool
says p names Principal t = is_principal t
says p names Resource t = is_resource t
says p names Context t = is_context t
says p names (Attributes u) t = are_attributes p names u t
says p names (Tag u key) t = is_tag p names u key t

-- the first that says what is sought, by its number in the table
abbrev pub first_saying : Posed → List (List ℕ) → Sought → List ℕ → Option ℕ
first_saying p names s [] = None
first_saying p names s (n ∷ ns) = if says p names s (tree p.nodes n) then Some n else first_saying p names s ns

-- ---- worked rows

pub resource_is_no_principal : (p : Posed) (names : List (List ℕ)) (k : Sort)
    → says p names Principal (leaf (leafs.Resource k)) ≡ false
resource_is_no_principal p names k = refl

pub none_says : (p : Posed) (names : List (List ℕ)) (s : Sought) → first_saying p names s [] ≡ None
none_says p names s = refl
