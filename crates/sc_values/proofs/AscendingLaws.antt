-- Ascending lists by a total order in which only equal elements are level: a list of certain elements is one, and sorting
-- and dropping repeats makes it.
use Rattle.std.proofs.Common.{◌≡◌, ◌↔◌, List, [], ◌∷◌, Bool, true, refl, sym, ap, subst, ◌∙◌, inl, inr, Contains}
use Rattle.std.specs.List.{dedup}
use Rattle.std.specs.List.Retain.{IsFiltered, DiffersFromLast}
use Rattle.std.specs.List.Sorted.{IsSorted, IsStrictlySortedBy, IsPermutation}
use Rattle.std.specs.Cmp.{IsTotalOrder, IsEquivalence}
use Rattle.std.specs.declared.cmp.Ordering.{Ordering}
use Rattle.std.specs.declared.cmp.Ordering.TheVariants.{Less, Greater}
use Rattle.std.specs.Ordering.{ordering_reverse, eq_by_cmp}
use Rattle.std.proofs.lemmas.List.Filters.{dedup_is}
use Rattle.std.proofs.lemmas.List.Kept.{IsStrictlySortedBy-dedup, Contains-dedup, Contains-from_dedup}
use Rattle.std.proofs.lemmas.List.Sorted.{Contains-permutation, IsPermutation-sym}
use Rattle.std.proofs.lemmas.List.Elements.{All-from_recursion, All-contains}
use Rattle.std.proofs.lemmas.Map.Keys.{sorted_head, sorted_tail}
use Rattle.std.proofs.lemmas.Map.Lookups.{CmpEqualImpliesEq}
use Rattle.std.proofs.lemmas.Map.Views.{tells_apart}
use Rattle.sc_lists.proofs.ListLaws.{contains_first, contains_rest, contains_split, contains_nothing}

-- ---- at an order

module _ {K : Type 0} {R : K → K → Ordering} (o : IsTotalOrder R) (exact : CmpEqualImpliesEq R) where
  pub not_below : (u : K) → R u u ≡ Less → ⊥
  not_below u h =
      let turned : Less ≡ Greater = sym h ∙ o.antisymm u u ∙ ap ordering_reverse h in
      cc

  pub both_below : (x y : K) → R x y ≡ Less → R y x ≡ Less → ⊥
  both_below x y h k =
      let turned : Less ≡ Greater = sym h ∙ o.antisymm x y ∙ ap ordering_reverse k in
      cc

  -- the first is below the rest
  pub first_below : (x : K) (xs : List K) (u : K) → IsStrictlySortedBy R (x ∷ xs) → Contains xs u → R x u ≡ Less
  first_below x xs u a has = All-contains (λ y. R x y ≡ Less) xs u (All-from_recursion (λ y. R x y ≡ Less) xs (sorted_head R x xs a)) has

  one_first : (x y : K) (xs ys : List K) → IsStrictlySortedBy R (x ∷ xs) → IsStrictlySortedBy R (y ∷ ys) → Contains (y ∷ ys) x → Contains (x ∷ xs) y → x ≡ y
  one_first x y xs ys a b has had = elim (contains_split y ys x has) [
    | inl is ↦ sym is
    | inr later ↦ elim (contains_split x xs y had) [
      | inl is ↦ is
      | inr after ↦ absurd (both_below y x (first_below y ys x b later) (first_below x xs y a after))
    ]
  ]

  rest_has : (x y : K) (xs ys : List K) (u : K) → x ≡ y → IsStrictlySortedBy R (x ∷ xs) → Contains xs u → Contains (y ∷ ys) u → Contains ys u
  rest_has x y xs ys u same_first a has had = elim (contains_split y ys u had) [
    | inl is ↦ absurd (not_below u (subst (λ (v : K). R v u ≡ Less) (same_first ∙ is) (first_below x xs u a has)))
    | inr later ↦ later
  ]

  -- ascending lists of the same elements are one
  pub one_list : (xs ys : List K) → IsStrictlySortedBy R xs → IsStrictlySortedBy R ys → ((u : K) → Contains xs u ↔ Contains ys u) → xs ≡ ys
  one_list [] [] a b h = refl
  one_list [] (y ∷ ys) a b h = absurd (contains_nothing y ((h y).1 (contains_first y ys)))
  one_list (x ∷ xs) [] a b h = absurd (contains_nothing x ((h x).0 (contains_first x xs)))
  one_list (x ∷ xs) (y ∷ ys) a b h =
      let first : x ≡ y = one_first x y xs ys a b ((h x).0 (contains_first x xs)) ((h y).1 (contains_first y ys)) in
      let rest : xs ≡ ys = one_list xs ys (sorted_tail R x xs a) (sorted_tail R y ys b) (λ u.
      (λ has. rest_has x y xs ys u first a has ((h u).0 (contains_rest x xs u has)), λ has. rest_has y x ys xs u (sym first) b has ((h u).1 (contains_rest y ys u has)))) in
      cc

  module _ {E : K → K → Bool} (e : IsEquivalence E) (ties : (a b : K) → E a b ≡ eq_by_cmp R a b) where
    same : (a b : K) → E a b ≡ true → a ≡ b
    same a b h = tells_apart exact a b (sym (ties a b) ∙ h)

    -- sorting and dropping repeats makes an ascending list
    pub ascending_made : (xs ys : List K) → IsSorted R xs → IsFiltered (DiffersFromLast E) [] xs ys → IsStrictlySortedBy R ys
    ascending_made xs ys sorted filtered =
        subst (IsStrictlySortedBy R) (sym (dedup_is E xs ys filtered)) (IsStrictlySortedBy-dedup o ties xs sorted)

    -- of the same elements
    pub members_made : (xs ys zs : List K) → IsPermutation xs ys → IsFiltered (DiffersFromLast E) [] ys zs → (u : K) → Contains zs u ↔ Contains xs u
    members_made xs ys zs permutation filtered u =
        let is : zs ≡ dedup E ys = dedup_is E ys zs filtered in
        let P : List K → Type 0 = λ l. Contains l u in (
          λ h. Contains-permutation ys xs u (IsPermutation-sym xs ys permutation) (Contains-from_dedup E ys u (subst P is h)),
          λ h. subst P (sym is) (Contains-dedup e same ys u (Contains-permutation xs ys u permutation h)),
        )
