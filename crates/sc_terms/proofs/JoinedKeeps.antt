-- What holds of each of a list of terms, and of what joins two, holds of the whole list joined.
use Rattle.std.proofs.Common.{ℕ, zero, suc, ◌/◌, List, [], ◌∷◌, length, take, drop, All, arith}
use Rattle.std.proofs.lemmas.List.Elements.{All-take, All-drop}
use Rattle.sc_terms.specs.Trees.{Tree}
use Rattle.sc_terms.specs.Joined.{joined}

module _ (P : Tree → Type 0) (f : Tree → Tree → Tree) (e : Tree) (empty : P e) (two : (a b : Tree) → P a → P b → P (f a b)) where
  pub joined_keeps : (n : ℕ) (ts : List Tree) → All P ts → P (joined f e n ts)
  unfolding joined
  joined_keeps n [] h = empty
  joined_keeps n (x ∷ []) h = h 0 x (omega arith)
  joined_keeps zero (x ∷ y ∷ xs) h = h 0 x (omega arith)
  joined_keeps (suc n) (x ∷ y ∷ xs) h =
      let ts = x ∷ y ∷ xs in
      let k = length ts / 2 in
      two (joined f e n (take k ts)) (joined f e n (drop k ts)) (joined_keeps n (take k ts) (All-take P k ts h)) (joined_keeps n (drop k ts) (All-drop P k ts h))
