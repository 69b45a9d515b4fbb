-- What is in a list, one element after the other.
use Rattle.std.proofs.Common.{◌≡◌, ◌<◌, ◌++◌, ◌⊎◌, inl, inr, ℕ, zero, suc, Bool, true, List, [], ◌∷◌, length, slice_index_or, Contains, refl, subst, arith}
use Rattle.std.specs.List.{list_any, list_all}
use Rattle.std.proofs.lemmas.Bool.{or_cases, or_left, or_right}

pub data Has {X : Type 0} : List X → X → Type 0 where
  here : (x : X) (xs : List X) → Has (x ∷ xs) x
  there : (x y : X) (xs : List X) → Has xs y → Has (x ∷ xs) y

module _ {X : Type 0} where
  has_at : (xs : List X) (x : X) (k : ℕ) → k < length xs → slice_index_or xs k x ≡ x → Has xs x
  has_at [] x k lt e = absurd (omega arith)
  has_at (y ∷ ys) x zero lt e = subst (λ z. Has (y ∷ ys) z) e (here y ys)
  has_at (y ∷ ys) x (suc k) lt e = there y x ys (has_at ys x k (omega arith) e)

  pub has_of : (xs : List X) (x : X) → Contains xs x → Has xs x
  has_of xs x (k, lt, e) = has_at xs x k lt e

  pub contains_of : (xs : List X) (x : X) → Has xs x → Contains xs x
  contains_of _ _ (here x xs) = (zero, omega arith, refl)
  contains_of _ _ (there x y xs h) = let (k, lt, e) = contains_of xs y h in (suc k, omega arith, e)

  pub has_right : (xs ys : List X) (x : X) → Has ys x → Has (xs ++ ys) x
  has_right [] ys x h = h
  has_right (z ∷ xs) ys x h = there z x (xs ++ ys) (has_right xs ys x h)

  pub has_either : (xs ys : List X) (x : X) → Has (xs ++ ys) x → Has xs x ⊎ Has ys x
  has_either [] ys x h = inr h
  has_either (z ∷ xs) ys _ (here _ _) = inl (here z xs)
  has_either (z ∷ xs) ys _ (there _ x _ h) = elim (has_either xs ys x h) [ inl a ↦ inl (there z x xs a) | inr b ↦ inr b ]

  pub has_only : (x y : X) → Has (x ∷ []) y → x ≡ y
  has_only x _ (here _ _) = refl
  has_only x _ (there _ y _ h) = elim h [ ]

  module _ (p : X → Bool) where
    pub any_of : (xs : List X) → list_any p xs ≡ true → (x : X) × Has xs x × (p x ≡ true)
    any_of [] e = absurd cc
    any_of (x ∷ xs) e =
        elim (or_cases (p x) (list_any p xs) e) [
          | inl a ↦ (x, here x xs, a)
          | inr b ↦ (let (y, h, f) = any_of xs b in (y, there x y xs h, f))
        ]

    pub of_any : (xs : List X) (x : X) → Has xs x → p x ≡ true → list_any p xs ≡ true
    of_any _ _ (here x xs) e = or_left (p x) (list_any p xs) e
    of_any _ _ (there x y xs h) e = or_right (p x) (list_any p xs) (of_any xs y h e)

    pub of_all : (xs : List X) → ((x : X) → Has xs x → p x ≡ true) → list_all p xs ≡ true
    of_all [] h = refl
    of_all (x ∷ xs) h = rw (h x (here x xs)) (of_all xs (λ y k. h y (there x y xs k)))
