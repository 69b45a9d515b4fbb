-- What is known while things are told in turn. No public promise speaks of it.
use Rattle.std.specs.Prelude.{◌≡◌, ◌<◌, ◌⊎◌, ℕ, Bool, true, false, List, [], length, get_or}
use Rattle.std.specs.Ordering.{nat_cmp}
use Rattle.std.specs.BTreeSet.{BTreeSet, contains}
use Rattle.sc_lists.specs.Members.{Has}
use Rattle.sc_turns.specs.Turns.{parts_at, AreThings, IsReady, InTurn}
use Rattle.sc_turns.specs.declared.turning.Turning.{Turning}

-- whether a set of places has one
abbrev pub among : BTreeSet ℕ → ℕ → Bool
among s p = contains nat_cmp s p

-- it is marked as told
abbrev pub is_told : List Bool → ℕ → Bool
is_told marks p = get_or marks p false

-- it waits for a part that wasn't told
abbrev pub IsWaiting : List (List ℕ) → List ℕ → ℕ → Type 0
IsWaiting waiting told p = (q : ℕ) × Has (get_or waiting q []) p × (Has told q → ⊥)

-- it isn't told yet
abbrev pub IsLeft : List (List ℕ) → List ℕ → ℕ → Type 0
IsLeft parts told p = (p < length parts) × (Has told p → ⊥)

-- so many places, each of them
pub record AreAll (count : ℕ) (places : List ℕ) : Type 0 where
  pub within : (p : ℕ) → Has places p → p < count
  pub whole : (p : ℕ) → p < count → Has places p

-- what was told, which of the others may be told, and which wait for a part; but for those that are to be looked at
pub record IsTurning (parts : List (List ℕ)) (told : List ℕ) (marks : List Bool) (waiting : List (List ℕ))
    (ready : ℕ → Bool) (ahead : List ℕ) : Type 0 where
  pub things : AreThings parts
  pub turn : InTurn parts told
  pub as_marks : length marks ≡ length parts
  pub as_lists : length waiting ≡ length parts
  pub marked : (p : ℕ) → is_told marks p ≡ true → Has told p
  pub unmarked : (p : ℕ) → p < length parts → is_told marks p ≡ false → Has told p → ⊥
  pub sound : (p : ℕ) → ready p ≡ true → IsReady parts told p
  pub waits : (q p : ℕ) → Has (get_or waiting q []) p → (p < length parts) × Has (parts_at parts p) q
  pub left : (p : ℕ) → Has ahead p → IsLeft parts told p
  pub whole : (p : ℕ) → IsLeft parts told p → (ready p ≡ true) ⊎ IsWaiting waiting told p ⊎ Has ahead p

-- the same of what the code keeps
abbrev pub IsKept : Turning → Type 0
IsKept s = IsTurning s.parts s.told s.marks.items s.waiting.items (among s.ready) s.ahead.items
