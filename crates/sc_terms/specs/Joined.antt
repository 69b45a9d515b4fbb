-- Lists of terms, joined by halves, the first half rounded down.
use Rattle.std.specs.Prelude.{ℕ, zero, suc, ◌/◌, true, false, List, [], ◌∷◌, take, drop, length}
use Rattle.sc_terms.specs.Trees.{Tree}
use Rattle.sc_terms.specs.Folds.{truth_term, and_term, or_term}

-- by a connective, with a term for the empty list, and with as many levels as need be
unfoldable pub joined : (Tree → Tree → Tree) → Tree → ℕ → List Tree → Tree
joined f e n [] = e
joined f e n (x ∷ []) = x
joined f e zero (x ∷ y ∷ xs) = x
joined f e (suc n) (x ∷ y ∷ xs) =
    f (joined f e n (take (length (x ∷ y ∷ xs) / 2) (x ∷ y ∷ xs)))
    (joined f e n (drop (length (x ∷ y ∷ xs) / 2) (x ∷ y ∷ xs)))

-- whether all are true; of no terms `true`
abbrev pub all_of : List Tree → Tree
all_of xs = joined and_term (truth_term true) (length xs) xs

-- whether one is true; of no terms `false`
abbrev pub any_of : List Tree → Tree
any_of xs = joined or_term (truth_term false) (length xs) xs

-- how many terms come in at most where so many are joined
abbrev pub joins : ℕ → ℕ
joins zero = 1
joins (suc n) = n
