-- Closed terms by their numbers in the table.
use Rattle.std.specs.Prelude.{◌<◌, ℕ, List, length}
use Rattle.std.specs.List.{AllByRecursion, Contains}
use Rattle.sc_footprint.specs.Problems.{Posed}

-- the number of a closed term
pub record IsListed (p : Posed) (n : ℕ) : Type 0 where
  pub closed : Contains p.closed n
  pub within : n < length p.nodes

abbrev pub AreListed : Posed → List ℕ → Type 0
AreListed p ns = AllByRecursion (IsListed p) ns
