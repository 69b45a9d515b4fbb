-- What a search from one node has found so far. No public promise speaks of it.
use Rattle.std.specs.Prelude.{◌≡◌, ◌<◌, ◌==◌, ℕ, List, Option, Some, None, Bool, true, false, get_or, slice_get}
use Rattle.sc_graphs.specs.Reaching.{Reaches}
use Rattle.sc_graphs.specs.Graphs.{has, successors, Follows}

-- whether this is the node
abbrev pub is_node : ℕ → Option ℕ → Bool
is_node n None = false
is_node n (Some m) = m == n

-- whether a node stands on a list at the place that is kept for it, if one is
abbrev pub is_put : List ℕ → ℕ → Option ℕ → Bool
is_put order n None = false
is_put order n (Some place) = is_node n (slice_get order place)

-- what is on the list can be reached, what follows the start is on it, and so is what follows its nodes before a place
pub record IsSearched (graph : List (List ℕ)) (start : ℕ) (order : List ℕ) (at : ℕ) : Type 0 where
  pub sound : (n : ℕ) → has order n ≡ true → Reaches (Follows graph) start n
  pub begun : (n : ℕ) → has (successors graph start) n ≡ true → has order n ≡ true
  pub closed : (k n : ℕ) → k < at → has (successors graph (get_or order k 0)) n ≡ true → has order n ≡ true
