-- Labels of items: items that are known to be equal have one label.
use Rattle.std.specs.Prelude.{◌≡◌, ℕ, ◌<◌, ◌==◌, true, List, length, get_or, Some, if◌then◌else◌}
use Rattle.sc_falsified.specs.Truths.{Truth}

-- one label is replaced by another
abbrev pub moved : ℕ → ℕ → ℕ → ℕ
moved from to label = if label == from then to else label

-- this holds of the items before i, and of i with those before j
pub record IsJoined (truth : Truth) (n i j : ℕ) (labels : List ℕ) : Type 0 where
  pub sized : length labels ≡ n
  pub rows : (a b : ℕ) → a < i → b < a → truth a b ≡ Some true → get_or labels a 0 ≡ get_or labels b 0
  pub row : (b : ℕ) → b < j → truth i b ≡ Some true → get_or labels i 0 ≡ get_or labels b 0

-- items that are known to be equal have one label
pub record AreLabels (truth : Truth) (n : ℕ) (labels : List ℕ) : Type 0 where
  pub sized : length labels ≡ n
  pub joined : (a b : ℕ) → a < n → b < n → truth a b ≡ Some true → get_or labels a 0 ≡ get_or labels b 0
