-- Members of lists.
use Rattle.std.proofs.Common.{◌≡◌, ℕ, zero, suc, ◌+◌, ◌<◌, inl, inr, List, [], ◌∷◌, ◌++◌, take, length, get_or, slice_get, Some, None, refl, sym, ap, arith}
use Rattle.sc_lists.specs.Members.{Has}

-- ---- the first element

pub take_none : {X : Type 0} (xs : List X) (x : X) → Has (take 0 xs) x → ⊥
take_none xs x h = h

-- the element at a place stands behind those before it
pub take_next : {X : Type 0} (xs : List X) (i : ℕ) (x : X) → slice_get xs i ≡ Some x → take (i + 1) xs ≡ take i xs ++ x ∷ []
take_next [] i x h = absurd cc
take_next (y ∷ ys) zero x h = let same : y ≡ x = cc in ap (λ z. z ∷ []) same
take_next (y ∷ ys) (suc i) x h =
    let more : suc i + 1 ≡ suc (i + 1) = omega arith in
    rw more (ap (λ l. y ∷ l) (take_next ys i x h))

pub take_longer : {X : Type 0} (xs ys : List X) (i : ℕ) (x : X) → slice_get xs i ≡ Some x → take (i + 1) (xs ++ ys) ≡ take i xs ++ x ∷ []
take_longer [] ys i x h = absurd cc
take_longer (y ∷ xs) ys zero x h = let same : y ≡ x = cc in ap (λ z. z ∷ []) same
take_longer (y ∷ xs) ys (suc i) x h =
    let more : suc i + 1 ≡ suc (i + 1) = omega arith in
    rw more (ap (λ l. y ∷ l) (take_longer xs ys i x h))

pub take_past : {X : Type 0} (xs : List X) (i : ℕ) → slice_get xs i ≡ None → take i xs ≡ xs
take_past [] zero h = refl
take_past [] (suc i) h = refl
take_past (x ∷ xs) zero h = absurd cc
take_past (x ∷ xs) (suc i) h = ap (λ l. x ∷ l) (take_past xs i h)

pub Has-at : {X : Type 0} (xs : List X) (i : ℕ) (x : X) → slice_get xs i ≡ Some x → Has xs x
Has-at [] i x h = absurd cc
Has-at (y ∷ ys) zero x h = inl cc
Has-at (y ∷ ys) (suc i) x h = inr (Has-at ys i x h)

pub Has-read : {X : Type 0} (xs : List X) (i : ℕ) (x : X) → i < length xs → x ≡ get_or xs i x → Has xs x
Has-read [] i x h e = absurd (omega (arith, h))
Has-read (y ∷ ys) zero x h e = inl (sym e)
Has-read (y ∷ ys) (suc i) x h e = inr (Has-read ys i x (omega (arith, h)) e)
