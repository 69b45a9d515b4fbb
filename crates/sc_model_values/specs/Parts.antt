-- Closed terms by their numbers in the table.
use Rattle.std.specs.Prelude.{◌≡◌, ◌<◌, ℕ, length}
use Rattle.std.specs.List.{Contains}
use Rattle.sc_sorts.specs.declared.sort.Sort.{Sort}
use Rattle.sc_terms.specs.Tables.{tree}
use Rattle.sc_terms.specs.TreeSorts.{tree_sort}
use Rattle.sc_footprint.specs.Problems.{Posed}

-- the number of a closed term of a sort
pub record IsOf (p : Posed) (k : Sort) (n : ℕ) : Type 0 where
  pub closed : Contains p.closed n
  pub within : n < length p.nodes
  pub sorted : tree_sort (tree p.nodes n) ≡ k
