-- Crowds: items that are known to differ pairwise, more of them than there are texts with the signs that all of them
-- have.
use Rattle.std.specs.Prelude.{◌≡◌, ℕ, zero, suc, ◌<◌, ◌≤◌, ◌+◌, ◌-◌, Bool, true, false, List, [], length, get_or, slice_set, Option, Some, None}
use Rattle.std.specs.List.{All, AllPairs}
use Rattle.sc_falsified.specs.Truths.{Truth}

-- a sign for each pattern: the string matches it, doesn't match it, or isn't asked
abbrev pub Signs : Type 0
Signs = List (Option Bool)

-- whether fewer than a number of texts have the signs that are asked
abbrev pub Few : Type 1
Few = Signs → ℕ → Type 0

-- each sign that the first list asks the second asks too
abbrev pub IsWithin : Signs → Signs → Type 0
IsWithin w v = (p : ℕ) (s : Bool) → get_or w p None ≡ Some s → get_or v p None ≡ Some s

-- an item is known to have each sign that is asked
abbrev pub Fits : Truth → Signs → ℕ → Type 0
Fits sign w t = (p : ℕ) (s : Bool) → get_or w p None ≡ Some s → sign t p ≡ Some s

-- items that are known to differ pairwise, and each to have the signs that are asked
pub record IsChosen (truth sign : Truth) (n patterns : ℕ) (items : List ℕ) (signs : Signs) : Type 0 where
  pub within : All (λ t. t < n) items
  pub apart : AllPairs (λ t u. truth t u ≡ Some false) items
  pub sized : length signs ≡ patterns
  pub fit : All (Fits sign signs) items

-- a crowd: fewer texts have these signs than there are such items
pub record IsCrowd (truth sign : Truth) (few : Few) (n patterns : ℕ) (items : List ℕ) (signs : Signs) : Type 0 where
  pub chosen : IsChosen truth sign n patterns items signs
  pub too_many : few signs (length items)

-- there is no crowd
abbrev pub NoneCrowded : Truth → Truth → Few → ℕ → ℕ → Type 0
NoneCrowded truth sign few n patterns =
    (items : List ℕ) (signs : Signs) → ¬ (IsCrowd truth sign few n patterns items signs)

-- ---- the search for one

-- the sign on which two agree
abbrev pub agreed : Option Bool → Option Bool → Option Bool
agreed None other = None
agreed (Some s) None = None
agreed (Some true) (Some true) = Some true
agreed (Some true) (Some false) = None
agreed (Some false) (Some true) = None
agreed (Some false) (Some false) = Some false

-- all signs of an item
pub record IsRow (sign : Truth) (patterns t : ℕ) (row : Signs) : Type 0 where
  pub sized : length row ≡ patterns
  pub at : (p : ℕ) → p < patterns → get_or row p None ≡ sign t p

-- those of some signs that an item has too
pub record IsMeet (sign : Truth) (signs : Signs) (t : ℕ) (met : Signs) : Type 0 where
  pub sized : length met ≡ length signs
  pub at : (p : ℕ) → p < length signs → get_or met p None ≡ agreed (get_or signs p None) (sign t p)

abbrev pub one_if : Bool → ℕ
one_if true = 1
one_if false = 0

-- how many of the m numbers from `at` on pass a test
abbrev pub count_from : (ℕ → Bool) → ℕ → ℕ → ℕ
count_from test at zero = 0
count_from test at (suc m) = one_if (test at) + count_from test (suc at) m

-- the items from a place on that pass a test differ pairwise and from the chosen ones, and have the signs
pub record IsFurther (truth sign : Truth) (n : ℕ) (chosen : List ℕ) (at : ℕ) (test : ℕ → Bool)
    (w : Signs) : Type 0 where
  pub apart : (t u : ℕ) → at ≤ t → t < u → u < n → test t ≡ true → test u ≡ true → truth t u ≡ Some false
  pub away : (t : ℕ) → at ≤ t → t < n → test t ≡ true → All (λ c. truth c t ≡ Some false) chosen
  pub fit : (t : ℕ) → at ≤ t → t < n → test t ≡ true → Fits sign w t

-- at most this many such items stand from a place on
unfoldable pub HasRoom : Truth → Truth → ℕ → List ℕ → ℕ → ℕ → Type 0
HasRoom truth sign n chosen at most =
    (test : ℕ → Bool) (w : Signs) → IsFurther truth sign n chosen at test w → count_from test at (n - at) ≤ most

-- and so from each later place
abbrev pub HasRoomFrom : Truth → Truth → ℕ → List ℕ → ℕ → ℕ → Type 0
HasRoomFrom truth sign n chosen from most = (at : ℕ) → from ≤ at → at ≤ n → HasRoom truth sign n chosen at most

-- whatever signs of a family are asked, the chosen items and some from a place on are no crowd
abbrev pub NoneOn : Truth → Truth → Few → ℕ → (Signs → Type 0) → List ℕ → ℕ → Type 0
NoneOn truth sign few n asked chosen at =
    (w : Signs) (test : ℕ → Bool) → asked w → IsFurther truth sign n chosen at test w
    → ¬ (few w (length chosen + count_from test at (n - at)))

-- the family: parts of the given signs
unfoldable pub NoneIn : Truth → Truth → Few → ℕ → Signs → List ℕ → ℕ → Type 0
NoneIn truth sign few n signs chosen at = NoneOn truth sign few n (λ w. IsWithin w signs) chosen at

-- nothing is chosen, and the family is all signs
unfoldable pub NoneAfter : Truth → Truth → Few → ℕ → ℕ → ℕ → Type 0
NoneAfter truth sign few n patterns at = NoneOn truth sign few n (λ w. length w ≡ patterns) [] at

-- ---- signs that a crowd doesn't need

-- a sign, asked only if it is true
abbrev pub true_sign : Option Bool → Option Bool
true_sign None = None
true_sign (Some true) = Some true
true_sign (Some false) = None

-- part of the signs are asked
pub record IsPart (old new : Signs) : Type 0 where
  pub sized : length new ≡ length old
  pub within : IsWithin new old

-- part of the signs are asked, and still fewer than `count` texts have them
pub record IsEnough (few : Few) (count : ℕ) (old new : Signs) : Type 0 where
  pub sized : length new ≡ length old
  pub within : IsWithin new old
  pub enough : few new count

-- each of the first n signs is needed: without it no fewer than `count` texts have the others
unfoldable pub AreNeeded : Few → ℕ → Signs → ℕ → Type 0
AreNeeded few count signs n = (p : ℕ) (s : Bool) → p < n → get_or signs p None ≡ Some s
    → ¬ (few (slice_set signs p None) count)

-- each sign is needed
abbrev pub AreAllNeeded : Few → ℕ → Signs → Type 0
AreAllNeeded few count signs = (p : ℕ) (s : Bool) → get_or signs p None ≡ Some s
    → ¬ (few (slice_set signs p None) count)
