-- A sorted list of uids without repeats.
use Rattle.std.proofs.Common.{◌≡◌, ◌↔◌, ◌⊎◌, ℕ, ◌+◌, ◌<◌, zero, suc, List, [], ◌∷◌, ◌++◌, length, get_or, Bool, true, false, Result, Ok, Err, IfOk, is_ok, IsTrue, refl, sym, ap, subst, ◌∙◌, inl, inr, arith, Contains, IsPermutation}
use Rattle.std.specs.List.{dedup}
use Rattle.std.specs.List.Retain.{IsFiltered, DiffersFromLast}
use Rattle.std.specs.List.Sorted.{IsSorted, IsStrictlySortedBy, IsSearchInRange, IsBinarySearchResult}
use Rattle.std.specs.Ordering.{eq_by_cmp}
use Rattle.std.proofs.lemmas.List.Filters.{dedup_is}
use Rattle.std.proofs.lemmas.List.Kept.{IsStrictlySortedBy-dedup, Contains-dedup, Contains-from_dedup}
use Rattle.std.proofs.lemmas.List.Sorted.{Contains-permutation, IsPermutation-sym, searchable_from_sorted}
use Rattle.std.proofs.lemmas.List.Elements.{Contains-append_left, Contains-append_right, Contains-append_cases, All-from_recursion, All-contains}
use Rattle.std.proofs.lemmas.Result.{IfOk-weaker}
use Rattle.std.specs.declared.cmp.Ordering.TheVariants.{Less, Greater}
use Rattle.std.specs.Ordering.{is_lt, ordering_reverse}
use Rattle.std.proofs.lemmas.Bool.{cases_lt}
use Rattle.std.proofs.lemmas.Map.Keys.{sorted_head, sorted_tail}
use Rattle.std.proofs.lemmas.Map.Views.{tells_apart}
use Rattle.sc_names.specs.declared.uid.Uid.{Uid}
use Rattle.sc_names.specs.contracts.uid.UidPartialEq.TheImpl.{ghosts}
use Rattle.sc_names.specs.contracts.uid.UidOrd.TheImpl.Laws.{matches_eq-law}
use Rattle.sc_names.specs.contracts.uid.UidEq.TheImpl.Laws.{laws-law}
use Rattle.sc_names.specs.Uids.{uid_cmp}
use Rattle.sc_names.proofs.UidLaws.{uid_cmp_total, uid_cmp_level}

uid_eq : Uid → Uid → Bool
uid_eq = ghosts.eq

pub ties : (a b : Uid) → ghosts.eq a b ≡ eq_by_cmp uid_cmp a b
ties a b = matches_eq-law a b

pub same : (a b : Uid) → ghosts.eq a b ≡ true → a ≡ b
same a b h = tells_apart uid_cmp_level a b (sym (ties a b) ∙ h)

pub ascending : (xs ys : List Uid) → IsSorted uid_cmp xs → IsFiltered (DiffersFromLast ghosts.eq) [] xs ys → IsStrictlySortedBy uid_cmp ys
ascending xs ys sorted filtered =
    subst (IsStrictlySortedBy uid_cmp) (sym (dedup_is ghosts.eq xs ys filtered)) (IsStrictlySortedBy-dedup uid_cmp_total ties xs sorted)

pub members : (xs ys zs : List Uid) → IsPermutation xs ys → IsFiltered (DiffersFromLast ghosts.eq) [] ys zs → (u : Uid) → Contains zs u ↔ Contains xs u
members xs ys zs permutation filtered u =
    let is : zs ≡ dedup ghosts.eq ys = dedup_is ghosts.eq ys zs filtered in
    let P : List Uid → Type 0 = λ l. Contains l u in (
      λ h. Contains-permutation ys xs u (IsPermutation-sym xs ys permutation) (Contains-from_dedup ghosts.eq ys u (subst P is h)),
      λ h. subst P (sym is) (Contains-dedup laws-law same ys u (Contains-permutation xs ys u permutation h)),
    )

pub none : (xs : List Uid) → xs ≡ [] → IsStrictlySortedBy uid_cmp xs
unfolding IsStrictlySortedBy
none xs is = subst (IsStrictlySortedBy uid_cmp) (sym is) tt

-- a set has the uids of a list, which is another
pub same_list : {E : Type 0} (r : Result (List Uid) E) (xs ys : List Uid) → xs ≡ ys
    → IfOk r (λ lits. (u : Uid) → Contains lits u ↔ Contains xs u) → IfOk r (λ lits. (u : Uid) → Contains lits u ↔ Contains ys u)
same_list r xs ys is h = subst (λ (zs : List Uid). IfOk r (λ lits. (u : Uid) → Contains lits u ↔ Contains zs u)) is h

-- a uid of two lists together is one of either
pub either : {E : Type 0} (r : Result (List Uid) E) (xs ys : List Uid)
    → IfOk r (λ lits. (u : Uid) → Contains lits u ↔ Contains (xs ++ ys) u) → IfOk r (λ lits. (u : Uid) → Contains lits u ↔ (Contains xs u ⊎ Contains ys u))
either r xs ys h = IfOk-weaker r (λ lits. (u : Uid) → Contains lits u ↔ Contains (xs ++ ys) u) (λ lits. (u : Uid) → Contains lits u ↔ (Contains xs u ⊎ Contains ys u))
    (λ lits has u. (λ k. Contains-append_cases xs ys u ((has u).0 k), λ k. (has u).1 (elim k [ inl left ↦ Contains-append_left xs ys u left | inr right ↦ Contains-append_right xs ys u right ]))) h

-- in ascending order an earlier uid is below a later one
below : (xs : List Uid) (k : ℕ) (d : Uid) → IsStrictlySortedBy uid_cmp xs → k + 1 < length xs → uid_cmp (get_or xs k d) (get_or xs (k + 1) d) ≡ Less
below [] k d a h = absurd (omega arith)
below (x ∷ xs) zero d a h = All-from_recursion (λ y. uid_cmp x y ≡ Less) xs (sorted_head uid_cmp x xs a) 0 d (omega arith)
below (x ∷ xs) (suc k) d a h =
    let next : suc k + 1 ≡ suc (k + 1) = omega arith in
    rw next (below xs k d (sorted_tail uid_cmp x xs a) (omega arith))

sorted : (xs : List Uid) → IsStrictlySortedBy uid_cmp xs → IsSorted uid_cmp xs
sorted xs a k d low high =
    ap is_lt (uid_cmp_total.antisymm (get_or xs (k + 1) d) (get_or xs k d) ∙ ap ordering_reverse (below xs k d a high))

not_below : (u : Uid) → uid_cmp u u ≡ Less → ⊥
not_below u h =
    let turned : Less ≡ Greater = sym h ∙ uid_cmp_total.antisymm u u ∙ ap ordering_reverse h in
    cc

not_above : (u : Uid) → uid_cmp u u ≡ Greater → ⊥
not_above u h =
    let turned : Greater ≡ Less = sym h ∙ uid_cmp_total.antisymm u u ∙ ap ordering_reverse h in
    cc

absent : (xs : List Uid) (u : Uid) (i : ℕ) → IsStrictlySortedBy uid_cmp xs → IsBinarySearchResult (λ y. uid_cmp y u) xs (Err i) → Contains xs u → ⊥
absent xs u i a search has =
    let parts = search (searchable_from_sorted uid_cmp_total (λ (y : Uid). y) xs u (sorted xs a)) in
    let is : get_or xs has.0 u ≡ u = has.2 in
    elim (cases_lt has.0 i) [
      | inl before ↦ not_below u (subst (λ (y : Uid). uid_cmp y u ≡ Less) is (parts.0 has.0 u (omega arith) before))
      | inr after ↦ not_above u (subst (λ (y : Uid). uid_cmp y u ≡ Greater) is (parts.1 has.0 u after has.1))
    ]

-- what a binary search tells
searched : (xs : List Uid) (u : Uid) (r : Result ℕ ℕ) → IsStrictlySortedBy uid_cmp xs → IsSearchInRange r (length xs) → IsBinarySearchResult (λ y. uid_cmp y u) xs r
    → IsTrue (is_ok r) ↔ Contains xs u
searched xs u (Ok i) a within search = (λ h. (i, within, uid_cmp_level (get_or xs i u) u (search u)), λ h. refl)
searched xs u (Err i) a within search = (λ h. absurd (let no : false ≡ true = h in cc), λ has. absurd (absent xs u i a search has))

pub found : (xs ys : List Uid) (u : Uid) (r : Result ℕ ℕ) (b : Bool) → b ≡ is_ok r → ys ≡ xs → IsStrictlySortedBy uid_cmp xs → IsSearchInRange r (length ys) → IsBinarySearchResult (λ y. uid_cmp y u) ys r
    → IsTrue b ↔ Contains xs u
found xs ys u r b is same_items a within search =
    let answer : IsTrue (is_ok r) ↔ Contains ys u = searched ys u r (subst (IsStrictlySortedBy uid_cmp) (sym same_items) a) within search in
    subst (λ (zs : List Uid). IsTrue b ↔ Contains zs u) same_items (subst (λ (t : Bool). IsTrue t ↔ Contains ys u) (sym is) answer)

-- the elements of a list are its first and those of the rest
of_first : (x : Uid) (xs : List Uid) → Contains (x ∷ xs) x
of_first x xs = (0, omega arith, refl)

of_rest : (x : Uid) (xs : List Uid) (u : Uid) → Contains xs u → Contains (x ∷ xs) u
of_rest x xs u has = (suc has.0, omega (arith, has.1), has.2)

split_at : (x : Uid) (xs : List Uid) (u : Uid) (k : ℕ) → k < length (x ∷ xs) → get_or (x ∷ xs) k u ≡ u → (x ≡ u) ⊎ Contains xs u
split_at x xs u zero within is = inl is
split_at x xs u (suc k) within is = inr (k, omega arith, is)

split : (x : Uid) (xs : List Uid) (u : Uid) → Contains (x ∷ xs) u → (x ≡ u) ⊎ Contains xs u
split x xs u has = split_at x xs u has.0 has.1 has.2

-- the first is below the rest
first_below : (x : Uid) (xs : List Uid) (u : Uid) → IsStrictlySortedBy uid_cmp (x ∷ xs) → Contains xs u → uid_cmp x u ≡ Less
first_below x xs u a has = All-contains (λ y. uid_cmp x y ≡ Less) xs u (All-from_recursion (λ y. uid_cmp x y ≡ Less) xs (sorted_head uid_cmp x xs a)) has

both_below : (x y : Uid) → uid_cmp x y ≡ Less → uid_cmp y x ≡ Less → ⊥
both_below x y h k =
    let turned : Less ≡ Greater = sym h ∙ uid_cmp_total.antisymm x y ∙ ap ordering_reverse k in
    cc

one_first : (x y : Uid) (xs ys : List Uid) → IsStrictlySortedBy uid_cmp (x ∷ xs) → IsStrictlySortedBy uid_cmp (y ∷ ys) → Contains (y ∷ ys) x → Contains (x ∷ xs) y → x ≡ y
one_first x y xs ys a b has had = elim (split y ys x has) [
  | inl is ↦ sym is
  | inr later ↦ elim (split x xs y had) [
    | inl is ↦ is
    | inr after ↦ absurd (both_below y x (first_below y ys x b later) (first_below x xs y a after))
  ]
]

rest_has : (x y : Uid) (xs ys : List Uid) (u : Uid) → x ≡ y → IsStrictlySortedBy uid_cmp (x ∷ xs) → Contains xs u → Contains (y ∷ ys) u → Contains ys u
rest_has x y xs ys u same_first a has had = elim (split y ys u had) [
  | inl is ↦ absurd (not_below u (subst (λ (v : Uid). uid_cmp v u ≡ Less) (same_first ∙ is) (first_below x xs u a has)))
  | inr later ↦ later
]

no_first : (x : Uid) → Contains [] x → ⊥
no_first x has = absurd (omega (arith, has.1))

-- ascending lists of the same uids are one
pub one_list : (xs ys : List Uid) → IsStrictlySortedBy uid_cmp xs → IsStrictlySortedBy uid_cmp ys → ((u : Uid) → Contains xs u ↔ Contains ys u) → xs ≡ ys
one_list [] [] a b h = refl
one_list [] (y ∷ ys) a b h = absurd (no_first y ((h y).1 (of_first y ys)))
one_list (x ∷ xs) [] a b h = absurd (no_first x ((h x).0 (of_first x xs)))
one_list (x ∷ xs) (y ∷ ys) a b h =
    let first : x ≡ y = one_first x y xs ys a b ((h x).0 (of_first x xs)) ((h y).1 (of_first y ys)) in
    let rest : xs ≡ ys = one_list xs ys (sorted_tail uid_cmp x xs a) (sorted_tail uid_cmp y ys b) (λ u.
    (λ has. rest_has x y xs ys u first a has ((h u).0 (of_rest x xs u has)), λ has. rest_has y x ys xs u (sym first) b has ((h u).1 (of_rest y ys u has)))) in
    cc
