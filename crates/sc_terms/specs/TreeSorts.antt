-- The sort of each term.
use Rattle.std.specs.Prelude.{[], ◌∷◌}
use Rattle.sc_sorts.specs.declared.sort.Sort.{Sort}
use Rattle.sc_sorts.specs.Inside.{SortFields}
use Rattle.sc_sorts.specs.NodeSorts.{leaf_sort, unary_sort, binary_sort, many_sort}
use Rattle.sc_terms.specs.Trees.{Tree, leaf, one, two, choice, many, Trees, no_part, part}

unfoldable mutual
  -- the sort of a term; that of a choice is the sort of what it chooses from
  pub tree_sort : Tree → Sort
  tree_sort (leaf l) = leaf_sort l
  tree_sort (one o a) = unary_sort o (tree_sort a)
  tree_sort (two o a b) = binary_sort o (tree_sort a)
  tree_sort (choice c a b) = tree_sort a
  tree_sort (many o ts) = many_sort o (sorts_of ts)

  pub sorts_of : Trees → SortFields
  sorts_of no_part = []
  sorts_of (part l t ts) = (l, tree_sort t) ∷ sorts_of ts
