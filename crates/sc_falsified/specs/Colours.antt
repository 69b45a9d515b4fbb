-- Greedy colouring: no two items of one colour are known to differ, so of items that differ pairwise there are no
-- more than colours.
use Rattle.std.specs.Prelude.{◌≡◌, ℕ, ◌<◌, ◌≤◌, false, List, length, get_or, Option, Some, None}
use Rattle.std.specs.List.{All}
use Rattle.sc_falsified.specs.Truths.{Truth}

-- an item is known to differ from each of the chosen ones
abbrev pub IsAway : Truth → List ℕ → ℕ → Type 0
IsAway truth chosen t = All (λ c. truth c t ≡ Some false) chosen

-- no item of the colour is known to differ from this one
unfoldable pub MayHave : Truth → List (Option ℕ) → ℕ → ℕ → ℕ → Type 0
MayHave truth colours upto u g = (t : ℕ) → t < upto → get_or colours t None ≡ Some g → ¬ (truth t u ≡ Some false)

-- the items from a place on that differ from the chosen ones are coloured, with k colours
pub record AreColoured (truth : Truth) (chosen : List ℕ) (from upto k : ℕ) (colours : List (Option ℕ)) : Type 0 where
  pub sized : length colours ≡ upto
  pub small : k ≤ upto
  pub each : (t : ℕ) → from ≤ t → t < upto → IsAway truth chosen t → (g : ℕ) × (get_or colours t None ≡ Some g)
  pub within : (t g : ℕ) → get_or colours t None ≡ Some g → g < k
  pub together : (t u g : ℕ) → t < u → u < upto → get_or colours t None ≡ Some g → get_or colours u None ≡ Some g
      → ¬ (truth t u ≡ Some false)
