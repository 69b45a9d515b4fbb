-- Lists in ascending order, each key once (`IsStrictlySortedBy`): of members, or of pairs by their keys.
use Rattle.std.specs.Prelude.{◌≡◌, ◌≤◌, ℕ, Bool, List, Option, All, IsSomeAnd, length, take, drop, slice_get}
use Rattle.std.specs.List.{list_any}
use Rattle.std.specs.Map.{lookup}
use Rattle.std.specs.BTreeMap.{is_at}
use Rattle.std.specs.declared.cmp.Ordering.{Ordering}
use Rattle.std.specs.declared.cmp.Ordering.TheVariants.{Less, Equal}

-- whether some member is level with x
abbrev pub is_in : {K : Type 0} → (K → K → Ordering) → K → List K → Bool
is_in R x members = list_any (is_at (R x)) members

-- the value at the key that is level with k
abbrev pub value_at : {K V : Type 0} → (K → K → Ordering) → K → List (K × V) → Option V
value_at R k pairs = lookup (is_at (R k)) pairs

-- the key at place i is level with k
abbrev pub StandsAt : {K : Type 0} → (K → K → Ordering) → List K → K → ℕ → Type 0
StandsAt R keys k i = IsSomeAnd (slice_get keys i) (λ y. R k y ≡ Equal)

-- k belongs before place i: the keys before it are below k, and k is below those from it on
pub record BelongsAt {K : Type 0} (R : K → K → Ordering) (keys : List K) (k : K) (i : ℕ) : Type 0 where
  pub within : i ≤ length keys
  pub above : All (λ y. R y k ≡ Less) (take i keys)
  pub below : All (λ y. R k y ≡ Less) (drop i keys)
