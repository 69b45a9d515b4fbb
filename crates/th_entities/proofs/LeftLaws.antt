-- What holds of each in a list tells something, one less at a time.
use Rattle.std.proofs.Common.{◌≡◌, List, [], ◌∷◌, length, subst, arith}
use Rattle.std.specs.List.{AllByRecursion}

module _ {X : Type 0} (P : X → Type 0) (Told : Type 0) where
  -- it is told, if P holds of these
  abbrev pub IsLeft : List X → Type 0
  IsLeft xs = AllByRecursion P xs → Told

  pub left_less : (xs ys : List X) (x : X) → xs ≡ x ∷ ys → P x → IsLeft xs → IsLeft ys
  left_less xs ys x is here left all = left (rw is (here, all))

  pub left_none : (xs : List X) → length xs ≡ 0 → IsLeft xs → Told
  left_none [] e left = left tt
  left_none (x ∷ xs) e left = absurd (omega (arith, e))

  pub left_empty : (xs : List X) → xs ≡ [] → IsLeft xs → Told
  left_empty xs e left = left (rw e tt)

-- ---- the first of some, and the others

module _ {X : Type 0} (P : X → Type 0) where
  pub first_of : (xs ys : List X) (x : X) → xs ≡ x ∷ ys → AllByRecursion P xs → P x
  first_of xs ys x is all = let both : AllByRecursion P (x ∷ ys) = subst (AllByRecursion P) is all in both.0

  pub others_of : (xs ys : List X) (x : X) → xs ≡ x ∷ ys → AllByRecursion P xs → AllByRecursion P ys
  others_of xs ys x is all = let both : AllByRecursion P (x ∷ ys) = subst (AllByRecursion P) is all in both.1
