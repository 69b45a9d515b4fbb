-- Classes of items, by a parent of each.
use Rattle.std.specs.Prelude.{◌≡◌, ◌<◌, ◌≤◌, ℕ, List, length, get_or}

-- no parent is higher than its item
pub record AreParents (ps : List ℕ) : Type 0 where
  pub low : (i : ℕ) → i < length ps → get_or ps i 0 ≤ i

-- labels, each item's that of its parent
pub record IsAlong (ps ls : List ℕ) : Type 0 where
  pub along : (i : ℕ) → i < length ps → get_or ls i 0 ≡ get_or ls (get_or ps i 0) 0

-- those of the first so many items
pub record AreFirstAlong (ps ls : List ℕ) (n : ℕ) : Type 0 where
  pub sized : length ls ≡ n
  pub along : (i : ℕ) → i < n → get_or ls i 0 ≡ get_or ls (get_or ps i 0) 0

-- two items are in one class: they have one label
pub record IsSame (ps : List ℕ) (i j : ℕ) : Type 0 where
  pub same : (ls : List ℕ) → IsAlong ps ls → get_or ls i 0 ≡ get_or ls j 0

-- the lowest item of an item's class
pub record IsRoot (ps : List ℕ) (i r : ℕ) : Type 0 where
  pub within : r < length ps
  pub own : get_or ps r 0 ≡ r
  pub class : IsSame ps i r

-- what was in one class still is
pub record IsCoarser (old new : List ℕ) : Type 0 where
  pub sized : length new ≡ length old
  pub parents : AreParents new
  pub kept : (ls : List ℕ) → IsAlong new ls → IsAlong old ls
