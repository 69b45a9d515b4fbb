-- What holds of each member of a list.
use Rattle.std.proofs.Common.{inl, inr, List, [], ◌∷◌, ◌++◌, map, Bool, IsTrue, Contains, refl, sym, subst}
use Rattle.std.specs.List.{AllByRecursion, list_all, list_any}
use Rattle.std.proofs.lemmas.Bool.{or_cases, or_left, or_right, and_from}
use Rattle.sc_lists.proofs.ListLaws.{contains_nothing, contains_rest, contains_first, contains_split}

module _ {X : Type 0} (P : X → Type 0) where
  pub split : (xs ys : List X) → AllByRecursion P (xs ++ ys) → AllByRecursion P xs × AllByRecursion P ys
  split [] ys h = (tt, h)
  split (x ∷ xs) ys h = let p = split xs ys h.1 in ((h.0, p.0), p.1)

  pub joined : (xs ys : List X) → AllByRecursion P xs → AllByRecursion P ys → AllByRecursion P (xs ++ ys)
  joined [] ys h k = k
  joined (x ∷ xs) ys h k = (h.0, joined xs ys h.1 k)

  pub all_true : (test : X → Bool) → ((x : X) → P x → IsTrue (test x)) → (xs : List X) → AllByRecursion P xs → IsTrue (list_all test xs)
  all_true test f [] h = refl
  all_true test f (x ∷ xs) h = and_from (test x) (list_all test xs) (f x h.0) (all_true test f xs h.1)

  pub each_weaker : (Q : X → Type 0) → ((x : X) → P x → Q x) → (xs : List X) → AllByRecursion P xs → AllByRecursion Q xs
  each_weaker Q f [] h = tt
  each_weaker Q f (x ∷ xs) h = (f x h.0, each_weaker Q f xs h.1)

  pub each_mapped : {Y : Type 0} (f : Y → X) (ys : List Y) → AllByRecursion (λ y. P (f y)) ys → AllByRecursion P (map f ys)
  each_mapped f [] h = tt
  each_mapped f (y ∷ ys) h = (h.0, each_mapped f ys h.1)

  pub contained : (xs : List X) (x : X) → AllByRecursion P xs → Contains xs x → P x
  contained [] x all has = absurd (contains_nothing x has)
  contained (y ∷ ys) x all has = elim (contains_split y ys x has) [
    | inl here ↦ subst P here all.0
    | inr later ↦ contained ys x all.1 later
  ]

  pub each_contained : (xs : List X) → ((x : X) → Contains xs x → P x) → AllByRecursion P xs
  each_contained [] h = tt
  each_contained (y ∷ ys) h = (h y (contains_first y ys), each_contained ys (λ x has. h x (contains_rest y ys x has)))

-- ---- tests

pub any_contained : {X : Type 0} (test : X → Bool) (xs : List X) (x : X) → Contains xs x → IsTrue (test x) → IsTrue (list_any test xs)
any_contained test [] x has h = absurd (contains_nothing x has)
any_contained test (y ∷ ys) x has h = elim (contains_split y ys x has) [
  | inl here ↦ or_left (test y) (list_any test ys) (subst (λ z. IsTrue (test z)) (sym here) h)
  | inr later ↦ or_right (test y) (list_any test ys) (any_contained test ys x later h)
]

pub one_passes : {X : Type 0} (test : X → Bool) (xs : List X) → IsTrue (list_any test xs) → (x : X) × Contains xs x × IsTrue (test x)
one_passes test [] h = absurd cc
one_passes test (y ∷ ys) h = elim (or_cases (test y) (list_any test ys) h) [
  | inl here ↦ (y, contains_first y ys, here)
  | inr later ↦ let p = one_passes test ys later in (p.0, contains_rest y ys p.0 p.1, p.2)
]
