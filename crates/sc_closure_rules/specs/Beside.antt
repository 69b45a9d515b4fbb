-- Which rule brings terms in by a term's row, by numbers of a table. No public promise speaks of it.
use Rattle.std.specs.Prelude.{◌≡◌, ◌<◌, ℕ, Bool, true, false, List, [], ◌∷◌, Option, Some, None, map, length}
use Rattle.sc_names.specs.declared.uid.Uid.{Uid}
use Rattle.sc_schema.specs.Declarations.{Declarations}
use Rattle.sc_sorts.specs.declared.sort.Sort.{Sort, Sort-F, out-Sort}
use Rattle.sc_sorts.specs.declared.sort.Sort.TheOpen as s
use Rattle.sc_sorts.specs.Entities.{of_type_name}
use Rattle.sc_sorts.specs.declared.sort.Sort.TheVariants as sort
use Rattle.sc_sorts.specs.declared.node.Leaf.TheVariants.{Literal}
use Rattle.sc_sorts.specs.declared.node.Node.{Node}
use Rattle.sc_sorts.specs.declared.node.Node.TheVariants as node
use Rattle.sc_sorts.specs.declared.node.UnaryOp.TheVariants as unary
use Rattle.sc_sorts.specs.declared.node.BinaryOp.TheVariants as binary
use Rattle.sc_sorts.specs.declared.node.ManyOp.TheVariants as manys
use Rattle.sc_terms.specs.Trees.{Tree, two}
use Rattle.sc_terms.specs.Folds.{equal_term, present_term, held_term, default_term}
use Rattle.sc_terms.specs.Tables.{Places, tree}
use Rattle.sc_terms.specs.TreeSorts.{tree_sort}
use Rattle.sc_closure_rules.specs.declared.following.Beside.{Beside}
use Rattle.sc_closure_rules.specs.declared.following.Beside.TheVariants as row
use Rattle.sc_closure_rules.specs.declared.equations.Equated.{Equated}
use Rattle.sc_closure_rules.specs.declared.equations.Equated.TheVariants as equated
use Rattle.sc_closure_rules.specs.Closure.{beside, branches, equations, ancestors_of, uid_term}

abbrev pub is_literal : Node → Bool
is_literal (node.Leaf (Literal l)) = true
is_literal _ = false

-- the sort of the ancestors that a node stands for
abbrev pub own_in : Node → Sort
own_in (node.One (unary.Ancestors own) a) = own
own_in _ = sort.Bool

-- the sort that an option holds
abbrev pub held_option : Sort-F Sort → Option Sort
held_option (s.Option held) = Some held
held_option _ = None

-- what tells an option
abbrev pub held_terms : Option Sort → Tree → List Tree
held_terms (Some held) x = present_term x ∷ held_term x ∷ equal_term (held_term x) (default_term held) ∷ []
held_terms None x = []

-- what an equation of a sort is told by
abbrev pub equated_by : Sort-F Sort → Equated
equated_by (s.Record fields) = equated.Fields
equated_by (s.Option held) = equated.Held
equated_by (s.Set member) = equated.Inclusions
equated_by _ = equated.Nothing

-- the choices of a sort of entities
abbrev pub choices_in : Sort-F Sort → List Uid
choices_in (s.Entity name us) = us
choices_in _ = []

-- of these entities those of a sort's type, as members of a set
abbrev pub members_of_sort : Sort-F Sort → Tree → List Uid → List Tree
members_of_sort (s.Entity name us) set vs =
    map (λ (v : Uid). two binary.Member (uid_term us v) set) (of_type_name name vs)
members_of_sort _ set vs = []

-- a number stands for the ancestors of an entity
pub record IsAncestorsOf (xs : List Node) (n e : ℕ) : Type 0 where
  pub own : Sort
  pub is : tree xs n ≡ ancestors_of own (tree xs e)

-- the rule of a node
abbrev pub rule : Node → Beside
rule (node.Choice c a b) = row.Branches a b
rule (node.One (unary.Ancestors own) a) = row.Ancestors a
rule (node.Two binary.Equal a b) = row.Equations a b
rule (node.Two (binary.Tag own) a b) = row.Tag a b
rule (node.Two binary.Member x q) = row.Membership x q
rule (node.Two binary.Subset a b) = row.Inclusion a b
rule (node.Two binary.Common a b) = row.Intersection a b
rule _ = row.Nothing

-- the parts of a set term's node
abbrev pub set_parts : Node → Option Places
set_parts (node.Many (manys.Set member) ps) = Some ps
set_parts _ = None

-- what each rule says of a term, by its number and those of its parts
abbrev pub IsBesideOf : List Node → ℕ → Beside → Type 0
IsBesideOf xs n row.Nothing = (d : Declarations) → beside d (tree xs n) ≡ []
IsBesideOf xs n (row.Branches a b) =
    (a < length xs) × (b < length xs)
    × ((d : Declarations) → beside d (tree xs n)
    ≡ branches (out-Sort (tree_sort (tree xs a))) (tree xs n) (tree xs a) (tree xs b))
IsBesideOf xs n (row.Ancestors e) = (e < length xs) × IsAncestorsOf xs n e
IsBesideOf xs n (row.Equations a b) =
    (a < length xs) × (b < length xs)
    × ((d : Declarations) → beside d (tree xs n)
    ≡ equations (out-Sort (tree_sort (tree xs a))) (tree xs a) (tree xs b))
IsBesideOf xs n (row.Tag e k) =
    (e < length xs) × (k < length xs)
    × (tree xs n ≡ two (binary.Tag (tree_sort (tree xs n))) (tree xs e) (tree xs k))
IsBesideOf xs n (row.Membership x q) =
    (x < length xs) × (q < length xs) × (tree xs n ≡ two binary.Member (tree xs x) (tree xs q))
IsBesideOf xs n (row.Inclusion a b) =
    (a < length xs) × (b < length xs) × (tree xs n ≡ two binary.Subset (tree xs a) (tree xs b))
IsBesideOf xs n (row.Intersection a b) =
    (a < length xs) × (b < length xs) × (tree xs n ≡ two binary.Common (tree xs a) (tree xs b))
