-- The search for three items that breach transitivity.
use Rattle.std.specs.Prelude.{◌≡◌, ℕ, ◌<◌, ◌+◌, ◌==◌, ◌⊎◌, Bool, true, false, List, [], ◌∷◌, length, get_or, Option, Some, None, if◌then◌else◌}
use Rattle.sc_falsified.specs.Truths.{Truth}
use Rattle.sc_falsified.specs.Crowds.{one_if}

-- no item before the n-th is known to equal both
abbrev pub NoneBetween : Truth → ℕ → ℕ → ℕ → Type 0
NoneBetween truth n a c = (b : ℕ) → b < n → truth a b ≡ Some true → ¬ (truth b c ≡ Some true)

-- no breach begins with this item and has its third one after it and before `last`
abbrev pub NoneFrom : Truth → ℕ → ℕ → ℕ → Type 0
NoneFrom truth n last a = (c : ℕ) → a < c → c < last → truth a c ≡ Some false → NoneBetween truth n a c

-- what is known of two items, if they have one label; else nothing
abbrev pub seen : Truth → List ℕ → ℕ → ℕ → Option Bool
seen truth labels a b = if get_or labels b 0 == get_or labels a 0 then truth a b else None

-- A row has what is known of an item and each other, but for what no breach needs.
pub record IsRow (truth : Truth) (n a : ℕ) (row : List (Option Bool)) : Type 0 where
  pub sized : length row ≡ n
  pub known : (b : ℕ) (v : Bool) → get_or row b None ≡ Some v → truth a b ≡ Some v
  pub equal : (b : ℕ) → b < n → truth a b ≡ Some true → get_or row b None ≡ Some true
  pub apart : (c : ℕ) → c < n → truth a c ≡ Some false → (get_or row c None ≡ Some false) ⊎ NoneBetween truth n a c

-- how many items have a label
abbrev pub count_of : List ℕ → ℕ → ℕ
count_of [] l = 0
count_of (x ∷ xs) l = one_if (x == l) + count_of xs l

-- the number of items for each label
pub record AreSizes (labels sizes : List ℕ) : Type 0 where
  pub at : (l : ℕ) → l < length sizes → get_or sizes l 0 ≡ count_of labels l
