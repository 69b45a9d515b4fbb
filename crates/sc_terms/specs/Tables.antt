-- The terms that the numbers of a table stand for. A table is the list of its nodes, whose parts are numbers.
use Rattle.std.specs.Prelude.{◌≡◌, ℕ, ◌<◌, ◌≤◌, false, List, [], ◌∷◌, ◌++◌, Some, map, length, slice_get, slice_index_or, ⊤}
use Rattle.std.specs.List.{AllByRecursion}
use Rattle.sc_sorts.specs.declared.sort.Sort.{Sort}
use Rattle.sc_sorts.specs.declared.sort.Sort.TheVariants as sort
use Rattle.sc_sorts.specs.declared.node.Leaf.TheVariants.{Literal}
use Rattle.sc_sorts.specs.declared.node.Literal.TheVariants.{Bool as bool}
use Rattle.sc_sorts.specs.declared.node.Node.{Node}
use Rattle.sc_sorts.specs.declared.node.Node.TheVariants as node
use Rattle.sc_terms.specs.Trees.{Tree, leaf, one, two, choice, many, Trees, no_part, part, Labelled}
use Rattle.sc_terms.specs.TreeSorts.{tree_sort}

abbrev pub Places : Type 0
Places = List (List ℕ × ℕ)

-- the tree at a place, and `false` where there is none
abbrev pub among : List Tree → ℕ → Tree
among ts n = slice_index_or ts n (leaf (Literal (bool false)))

abbrev pub planted_parts : List Tree → Places → Trees
planted_parts ts [] = no_part
planted_parts ts (p ∷ ps) = part p.0 (among ts p.1) (planted_parts ts ps)

-- the tree of a node whose parts are places of ts
abbrev pub planted : List Tree → Node → Tree
planted ts (node.Leaf l) = leaf l
planted ts (node.One o a) = one o (among ts a)
planted ts (node.Two o a b) = two o (among ts a) (among ts b)
planted ts (node.Choice c a b) = choice (among ts c) (among ts a) (among ts b)
planted ts (node.Many o ps) = many o (planted_parts ts ps)

-- ts, and after them the trees of further nodes
abbrev pub grown : List Tree → List Node → List Tree
grown ts [] = ts
grown ts (x ∷ xs) = grown (ts ++ planted ts x ∷ []) xs

-- the trees of a table
unfoldable pub trees : List Node → List Tree
trees xs = grown [] xs

-- the term that a number stands for
unfoldable pub tree : List Node → ℕ → Tree
tree xs n = among (trees xs) n

-- parts by their numbers
abbrev pub node_parts : List Node → Places → Trees
node_parts xs [] = no_part
node_parts xs (p ∷ ps) = part p.0 (tree xs p.1) (node_parts xs ps)

-- the same as a list
abbrev pub at_numbers : List Node → Places → List Labelled
at_numbers xs = map (λ (p : List ℕ × ℕ). (p.0, tree xs p.1))

-- the term of a node whose parts are numbers of a table
abbrev pub node_tree : List Node → Node → Tree
node_tree xs (node.Leaf l) = leaf l
node_tree xs (node.One o a) = one o (tree xs a)
node_tree xs (node.Two o a b) = two o (tree xs a) (tree xs b)
node_tree xs (node.Choice c a b) = choice (tree xs c) (tree xs a) (tree xs b)
node_tree xs (node.Many o ps) = many o (node_parts xs ps)

-- each of these parts is a number below n
abbrev pub AreBelow : ℕ → Places → Type 0
AreBelow n = AllByRecursion (λ (p : List ℕ × ℕ). p.1 < n)

-- each part of a node is a number below n
abbrev pub PartsAreBelow : ℕ → Node → Type 0
PartsAreBelow n (node.Leaf l) = ⊤
PartsAreBelow n (node.One o a) = a < n
PartsAreBelow n (node.Two o a b) = (a < n) × (b < n)
PartsAreBelow n (node.Choice c a b) = (c < n) × (a < n) × (b < n)
PartsAreBelow n (node.Many o ps) = AreBelow n ps

-- parts have smaller numbers, and no two numbers stand for one term
pub record IsTable (xs : List Node) : Type 0 where
  pub below : (n : ℕ) (x : Node) → slice_get xs n ≡ Some x → PartsAreBelow n x
  pub apart : (m n : ℕ) → m < length xs → n < length xs → tree xs m ≡ tree xs n → m ≡ n

-- the sort at a place
abbrev pub sort_at : List Sort → ℕ → Sort
sort_at ss n = slice_index_or ss n sort.Bool

-- the sort of each number's term
pub record AreSorts (xs : List Node) (ss : List Sort) : Type 0 where
  pub as_many : length ss ≡ length xs
  pub each : (n : ℕ) → n < length xs → sort_at ss n ≡ tree_sort (tree xs n)

-- a table with the sorts of its terms
pub record IsSorted (xs : List Node) (ss : List Sort) : Type 0 where
  pub table : IsTable xs
  pub sorts : AreSorts xs ss

-- each number of the old table stands for the same term in the new one
pub record Keeps (old new : List Node) : Type 0 where
  pub longer : length old ≤ length new
  pub same : (n : ℕ) → n < length old → tree new n ≡ tree old n

-- n is a number of the table, and stands for t
pub record StandsFor (xs : List Node) (n : ℕ) (t : Tree) : Type 0 where
  pub within : n < length xs
  pub is : tree xs n ≡ t
