-- What stands above what.
use Rattle.std.specs.Prelude.{◌↔◌, List, Contains}
use Rattle.std.specs.List.{AllByRecursion}
use Rattle.std.specs.List.Sorted.{IsStrictlySortedBy}
use Rattle.std.specs.Map.{keys_of}
use Rattle.std.specs.declared.cmp.Ordering.{Ordering}
use Rattle.sc_graphs.specs.Reaching as reaching

-- keys, each with those that stand directly above it
abbrev pub Links : Type 0 → Type 0
Links K = List (K × List K)

-- b stands directly above a
pub record IsParent {K : Type 0} (links : Links K) (a b : K) : Type 0 where
  pub above : List K
  pub listed : Contains links (a, above)
  pub parent : Contains above b

-- b stands above a: directly, or above one that stands directly above a
abbrev pub IsAbove : {K : Type 0} → Links K → K → K → Type 0
IsAbove {K} links = reaching.Reaches (IsParent links)

-- just those that stand above a, in ascending order, each once
pub record AreAbove {K : Type 0} (cmp : K → K → Ordering) (links : Links K) (a : K) (ks : List K) : Type 0 where
  pub ascending : IsStrictlySortedBy cmp ks
  pub members : (b : K) → Contains ks b ↔ IsAbove links a b

-- what is named as standing above a key is a key too
abbrev pub NamesKeys : {K : Type 0} → Links K → Type 0
NamesKeys {K} links = AllByRecursion (λ (l : K × List K). AllByRecursion (Contains (keys_of links)) l.1) links

-- no key stands above itself
abbrev pub NoCycle : {K : Type 0} → Links K → Type 0
NoCycle {K} links = reaching.NoCycle (IsParent links)

-- the least key that stands above itself
abbrev pub IsLeastCycle : {K : Type 0} → (K → K → Ordering) → Links K → K → Type 0
IsLeastCycle {K} cmp links = reaching.IsLeastCycle cmp (IsParent links)
