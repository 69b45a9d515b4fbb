-- Graphs whose nodes stand for keys: node n for the key at place n of a list.
use Rattle.std.specs.Prelude.{◌≡◌, ◌<◌, ℕ, List, [], Some, true, length, get_or, Contains}
use Rattle.std.specs.List.{slice_get}
use Rattle.sc_graphs.specs.Graphs.{has, Follows}

-- one of these keys stands at place n
pub record NamesPlace {K : Type 0} (all ks : List K) (n : ℕ) : Type 0 where
  pub key : K
  pub there : slice_get all n ≡ Some key
  pub named : Contains ks key

-- these are the places of keys among all keys: of each that is there, and of nothing else
pub record ArePlaces {K : Type 0} (all ks : List K) (places : List ℕ) : Type 0 where
  pub sound : (n : ℕ) → has places n ≡ true → NamesPlace all ks n
  pub complete : (k : K) → Contains ks k → Contains all k → (n : ℕ) × (slice_get all n ≡ Some k) × (has places n ≡ true)

-- the first nodes of a graph have the places of the keys that come next to theirs
pub record HasPlaces {K : Type 0} (keys : List K) (next : ℕ → List K) (graph : List (List ℕ)) (count : ℕ) : Type 0 where
  pub size : length graph ≡ count
  pub each : (i : ℕ) → i < count → ArePlaces keys (next i) (get_or graph i [])

-- a node follows another just where its key follows the other's key; what a key follows is a key
pub record IsOfKeys {K : Type 0} (keys : List K) (follows : K → K → Type 0) (graph : List (List ℕ)) : Type 0 where
  pub sound : (i n : ℕ) (a : K) → slice_get keys i ≡ Some a → Follows graph i n → (b : K)
      × (slice_get keys n ≡ Some b) × follows a b
  pub complete : (i : ℕ) (a b : K) → slice_get keys i ≡ Some a → follows a b → Contains keys b → (n : ℕ)
      × (slice_get keys n ≡ Some b) × Follows graph i n
  pub known : (a b : K) → follows a b → Contains keys a
