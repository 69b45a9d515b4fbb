-- Assignments that leave nothing about the items open: they fall into classes, and each has a sign for each pattern.
-- Then, for each item, one item of each class among those with its signs tells whether they are a crowd, and there is
-- no search.
use Rattle.std.specs.Prelude.{◌≡◌, ◌==◌, ℕ, ◌<◌, ◌≤◌, Bool, true, false, List, length, get_or, Some, IsSome}
use Rattle.std.specs.List.{All}
use Rattle.sc_falsified.specs.Truths.{Truth}
use Rattle.sc_falsified.specs.Crowds.{Signs, Few, Fits, IsChosen, IsRow, count_from}

-- each two items are known to be equal or to differ, as their labels are, and each sign is known
pub record IsSettled (truth sign : Truth) (n patterns : ℕ) (labels : List ℕ) : Type 0 where
  pub classes : (a b : ℕ) → a < b → b < n → truth a b ≡ Some (get_or labels a 0 == get_or labels b 0)
  pub signs : (t p : ℕ) → t < n → p < patterns → IsSome (sign t p)

-- the items of the first m that pass a test differ pairwise, and have the signs
pub record AreApart (truth sign : Truth) (m : ℕ) (w : Signs) (test : ℕ → Bool) : Type 0 where
  pub apart : (t u : ℕ) → t < u → u < m → test t ≡ true → test u ≡ true → truth t u ≡ Some false
  pub fit : (t : ℕ) → t < m → test t ≡ true → Fits sign w t

-- at most this many of the first m items with these signs differ pairwise
unfoldable pub HasMost : Truth → Truth → ℕ → Signs → ℕ → Type 0
HasMost truth sign m w most = (test : ℕ → Bool) → AreApart truth sign m w test → count_from test 0 m ≤ most

-- picked from the first m: they differ pairwise and have the signs, and no more such items do
pub record IsPicked (truth sign : Truth) (n patterns m : ℕ) (w : Signs) (picked : List ℕ) : Type 0 where
  pub chosen : IsChosen truth sign n patterns picked w
  pub most : HasMost truth sign m w (length picked)
  pub before : All (λ t. t < m) picked

-- the items with the signs of a given one are no crowd
pub record IsRowFree (truth sign : Truth) (few : Few) (n patterns t : ℕ) : Type 0 where
  pub row : Signs
  pub is_row : IsRow sign patterns t row
  pub count : ℕ
  pub most : HasMost truth sign n row count
  pub enough : ¬ (few row count)

unfoldable pub AreRowsFree : Truth → Truth → Few → ℕ → ℕ → ℕ → Type 0
AreRowsFree truth sign few n patterns upto = (t : ℕ) → t < upto → IsRowFree truth sign few n patterns t
