-- The order in which things are told that have others as parts: the next one is always the least whose parts were told. Things
-- are places from 0; `parts` lists for each the places of its parts.
use Rattle.std.specs.Prelude.{◌<◌, ◌≤◌, ℕ, List, [], ◌∷◌, ◌++◌, length, get_or}
use Rattle.std.specs.List.{AllByRecursion}
use Rattle.sc_lists.specs.Members.{Has}

abbrev pub parts_at : List (List ℕ) → ℕ → List ℕ
parts_at parts x = get_or parts x []

-- each of these was told
abbrev pub AreTold : List ℕ → List ℕ → Type 0
AreTold told = AllByRecursion (Has told)

-- x may be told next
pub record IsReady (parts : List (List ℕ)) (told : List ℕ) (x : ℕ) : Type 0 where
  pub within : x < length parts
  pub new : Has told x → ⊥
  pub stand : AreTold told (parts_at parts x)

-- and no lesser one may
pub record IsNext (parts : List (List ℕ)) (told : List ℕ) (x : ℕ) : Type 0 where
  pub ready : IsReady parts told x
  pub least : (y : ℕ) → IsReady parts told y → x ≤ y

-- each is the next after those before it
pub data InTurn (parts : List (List ℕ)) : List ℕ → Type 0 where
  begins : InTurn parts []
  goes_on : (told : List ℕ) (x : ℕ) → InTurn parts told → IsNext parts told x → InTurn parts (told ++ x ∷ [])

-- each part is one of the things
abbrev pub AreThings : List (List ℕ) → Type 0
AreThings parts = (x p : ℕ) → Has (parts_at parts x) p → p < length parts

-- parts are of lower rank
abbrev pub AreRanked : List (List ℕ) → (ℕ → ℕ) → Type 0
AreRanked parts rank = (x p : ℕ) → Has (parts_at parts x) p → rank p < rank x
