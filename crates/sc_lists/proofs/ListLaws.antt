-- What is in a list, and what holds of each of its elements.
use Rattle.std.proofs.Common.{cond, filter, nat_eq, ◌≡◌, ◌⊎◌, ◌<◌, ◌+◌, ◌-◌, ◌&&◌, ◌||◌, ℕ, zero, suc, List, [], ◌∷◌, ◌++◌, length, take, drop, get_or, map, replicate, slice_get, Contains, Bool, true, false, Some, inl, inr, refl, ap, subst, ◌∙◌, arith, sym}
use Rattle.std.specs.List.{AllByRecursion, AllZip, IsDistinct, list_all, list_any, flat_map}
use Rattle.std.proofs.Math.Seq.{take-length}
use Rattle.std.proofs.lemmas.List.Elements.{All-contains, All-from_recursion, Contains-append_left, Contains-append_right, Contains-append_cases}
use Rattle.std.proofs.lemmas.Option.{slice_get_within, get_or_from_slice_get}
use Rattle.std.proofs.lemmas.Bool.{or_left, or_right}

-- ---- the elements of a list are its first and those of the rest

pub contains_first : {X : Type 0} (x : X) (xs : List X) → Contains (x ∷ xs) x
contains_first x xs = (0, omega arith, refl)

pub contains_rest : {X : Type 0} (x : X) (xs : List X) (y : X) → Contains xs y → Contains (x ∷ xs) y
contains_rest x xs y has = (suc has.0, omega (arith, has.1), has.2)

contains_split_at : {X : Type 0} (x : X) (xs : List X) (y : X) (k : ℕ) → k < length (x ∷ xs) → get_or (x ∷ xs) k y ≡ y → (x ≡ y) ⊎ Contains xs y
contains_split_at x xs y zero within is = inl is
contains_split_at x xs y (suc k) within is = inr (k, omega arith, is)

pub contains_split : {X : Type 0} (x : X) (xs : List X) (y : X) → Contains (x ∷ xs) y → (x ≡ y) ⊎ Contains xs y
contains_split x xs y has = contains_split_at x xs y has.0 has.1 has.2

pub contains_nothing : {X : Type 0} (x : X) → Contains [] x → ⊥
contains_nothing x has = absurd (omega (arith, has.1))

pub contains_map : {X Y : Type 0} (f : X → Y) (xs : List X) (x : X) → Contains xs x → Contains (map f xs) (f x)
contains_map f [] x has = absurd (contains_nothing x has)
contains_map {X} {Y} f (y ∷ ys) x has = elim (contains_split y ys x has) [
  | inl same ↦ subst (λ (z : Y). Contains (f y ∷ map f ys) z) (ap f same) (contains_first (f y) (map f ys))
  | inr more ↦ contains_rest (f y) (map f ys) (f x) (contains_map f ys x more)
]

pub contains_place : {X : Type 0} (xs : List X) (i : ℕ) (x : X) → slice_get xs i ≡ Some x → Contains xs x
contains_place xs i x h = (i, slice_get_within xs i x h, get_or_from_slice_get xs i x x h)

-- ---- what holds of each element

pub all_append : {X : Type 0} (P : X → Type 0) (xs ys : List X) → AllByRecursion P xs → AllByRecursion P ys → AllByRecursion P (xs ++ ys)
all_append P [] ys h k = k
all_append P (x ∷ xs) ys h k = (h.0, all_append P xs ys h.1 k)

pub all_weaker : {X : Type 0} (P Q : X → Type 0) → ((x : X) → P x → Q x) → (xs : List X) → AllByRecursion P xs → AllByRecursion Q xs
all_weaker P Q f [] h = tt
all_weaker P Q f (x ∷ xs) h = (f x h.0, all_weaker P Q f xs h.1)

pub all_always : {X : Type 0} (P : X → Type 0) → ((x : X) → P x) → (xs : List X) → AllByRecursion P xs
all_always P f [] = tt
all_always P f (x ∷ xs) = (f x, all_always P f xs)

pub all_of_elements : {X : Type 0} (P : X → Type 0) (xs : List X) → ((x : X) → Contains xs x → P x) → AllByRecursion P xs
all_of_elements P [] f = tt
all_of_elements P (x ∷ xs) f = (f x (contains_first x xs), all_of_elements P xs (λ y has. f y (contains_rest x xs y has)))

pub all_element : {X : Type 0} (P : X → Type 0) (xs : List X) (x : X) → AllByRecursion P xs → Contains xs x → P x
all_element P xs x all has = All-contains P xs x (All-from_recursion P xs all) has

-- what holds in step of two lists holds of them with one more each
pub zip_push : {X Y : Type 0} (R : X → Y → Type 0) (xs : List X) (ys : List Y) (x : X) (y : Y) → AllZip R xs ys → R x y → AllZip R (xs ++ x ∷ []) (ys ++ y ∷ [])
zip_push R [] [] x y h r = (r, tt)
zip_push R [] (b ∷ ys) x y h r = absurd h
zip_push R (a ∷ xs) [] x y h r = absurd h
zip_push R (a ∷ xs) (b ∷ ys) x y h r = (h.0, zip_push R xs ys x y h.1 r)

-- ---- tests of each element

pub list_all_true : {X : Type 0} (test : X → Bool) (xs : List X) → AllByRecursion (λ x. test x ≡ true) xs → list_all test xs ≡ true
list_all_true test [] h = refl
list_all_true test (x ∷ xs) h = ap (λ b. b && list_all test xs) h.0 ∙ list_all_true test xs h.1

pub list_any_false : {X : Type 0} (test : X → Bool) (xs : List X) → AllByRecursion (λ x. test x ≡ false) xs → list_any test xs ≡ false
list_any_false test [] h = refl
list_any_false test (x ∷ xs) h = ap (λ b. b || list_any test xs) h.0 ∙ list_any_false test xs h.1

-- ---- lists of one element alone

pub all_the_same : {X : Type 0} (n i : ℕ) (x : X) → get_or (replicate n x) i x ≡ x
all_the_same zero i x = refl
all_the_same (suc n) zero x = refl
all_the_same (suc n) (suc i) x = all_the_same n i x

-- ---- fronts and rests

pub map_itself : {X : Type 0} (xs : List X) → map (λ x. x) xs ≡ xs
map_itself [] = refl
map_itself {X} (x ∷ xs) = ap (λ (ys : List X). x ∷ ys) (map_itself xs)

pub rest_is : (a : ℕ) (cs : List ℕ) → take (length (a ∷ cs) - 1) (drop 1 (a ∷ cs)) ≡ cs
rest_is a cs = let less : length (a ∷ cs) - 1 ≡ length cs = omega arith in rw less (take-length cs)

pub contains_from_map : {X Y : Type 0} (f : X → Y) (xs : List X) (y : Y) → Contains (map f xs) y → (x : X) × Contains xs x × (f x ≡ y)
contains_from_map f [] y has = absurd (contains_nothing y has)
contains_from_map {X} {Y} f (x ∷ xs) y has = elim (contains_split (f x) (map f xs) y has) [
  | inl same ↦ (x, contains_first x xs, same)
  | inr more ↦ later (contains_from_map f xs y more)
] where
  later : (z : X) × Contains xs z × (f z ≡ y) → (z : X) × Contains (x ∷ xs) z × (f z ≡ y)
  later found = (found.0, contains_rest x xs found.0 found.1, found.2)

pub contains_joined : {X Y : Type 0} (f : X → List Y) (xs : List X) (x : X) (y : Y) → Contains xs x → Contains (f x) y → Contains (flat_map f xs) y
contains_joined f [] x y has inside = absurd (contains_nothing x has)
contains_joined {X} {Y} f (z ∷ zs) x y has inside = elim (contains_split z zs x has) [
  | inl same ↦ Contains-append_left (f z) (flat_map f zs) y (subst (λ (w : X). Contains (f w) y) (sym same) inside)
  | inr later ↦ Contains-append_right (f z) (flat_map f zs) y (contains_joined f zs x y later inside)
]

pub joined_from : {X Y : Type 0} (f : X → List Y) (xs : List X) (y : Y) → Contains (flat_map f xs) y → (x : X) × Contains xs x × Contains (f x) y
joined_from f [] y has = absurd (contains_nothing y has)
joined_from {X} {Y} f (z ∷ zs) y has = at (Contains-append_cases (f z) (flat_map f zs) y has) (joined_from f zs y) where
  at : Contains (f z) y ⊎ Contains (flat_map f zs) y → (Contains (flat_map f zs) y → (x : X) × Contains zs x × Contains (f x) y) → (x : X) × Contains (z ∷ zs) x × Contains (f x) y
  at (inl here) rest = (z, contains_first z zs, here)
  at (inr later) rest = let found = rest later in (found.0, contains_rest z zs found.0 found.1, found.2)

pub any_contained : {X : Type 0} (test : X → Bool) (xs : List X) (x : X) → Contains xs x → test x ≡ true → list_any test xs ≡ true
any_contained test [] x has h = absurd (contains_nothing x has)
any_contained {X} test (z ∷ xs) x has h = elim (contains_split z xs x has) [
  | inl same ↦ or_left (test z) (list_any test xs) (subst (λ (w : X). test w ≡ true) (sym same) h)
  | inr later ↦ or_right (test z) (list_any test xs) (any_contained test xs x later h)
]

-- ---- what passes a test

pub AllByRecursion-filter : {X : Type 0} (p : X → Bool) (P : X → Type 0) (xs : List X) → AllByRecursion P xs → AllByRecursion P (filter p xs)
AllByRecursion-filter p P [] h = tt
AllByRecursion-filter p P (x ∷ xs) h = by (p x) (AllByRecursion-filter p P xs h.1)
  where
    by : (b : Bool) → AllByRecursion P (filter p xs) → AllByRecursion P (cond b (x ∷ filter p xs) (filter p xs))
    by true k = (h.0, k)
    by false k = k

pub IsDistinct-filter : (p : ℕ → Bool) (ns : List ℕ) → IsDistinct nat_eq ns → IsDistinct nat_eq (filter p ns)
unfolding IsDistinct
IsDistinct-filter p [] h = tt
IsDistinct-filter p (n ∷ ns) h = by (p n) (AllByRecursion-filter p (λ m. nat_eq n m ≡ false) ns h.0) (IsDistinct-filter p ns h.1)
  where
    by : (b : Bool) → AllByRecursion (λ m. nat_eq n m ≡ false) (filter p ns) → IsDistinct nat_eq (filter p ns) → IsDistinct nat_eq (cond b (n ∷ filter p ns) (filter p ns))
    by true f k = (f, k)
    by false f k = k
