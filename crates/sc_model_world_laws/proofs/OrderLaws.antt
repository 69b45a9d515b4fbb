-- What is put in order ascends, and has just what was put.
use Rattle.std.proofs.Common.{◌≡◌, ◌⊎◌, inl, inr, List, [], ◌∷◌, refl, sym, ◌∙◌}
use Rattle.std.specs.BTreeSet.{insert_key}
use Rattle.std.specs.Cmp.{IsTotalOrder}
use Rattle.std.specs.List.Sorted.{IsStrictlySortedBy}
use Rattle.std.specs.Ordering.{match_ordering}
use Rattle.std.specs.declared.cmp.Ordering.{Ordering}
use Rattle.std.specs.declared.cmp.Ordering.TheVariants.{Less, Equal, Greater}
use Rattle.std.proofs.lemmas.Map.Lookups.{CmpEqualImpliesEq}
use Rattle.sc_lists.proofs.OrderedLaws.{ascending-insert_key}
use Rattle.sc_lists.specs.Members.{Has}
use Rattle.sc_model_world_laws.specs.Rebuilt.{in_order}

module _ {K : Type 0} {R : K → K → Ordering} (o : IsTotalOrder R) (exact : CmpEqualImpliesEq R) where
  put_has : (c : Ordering) (x y z : K) (ys later : List K) → Has (match_ordering c (x ∷ y ∷ ys) (y ∷ ys) (y ∷ later)) z → (Has later z → (x ≡ z) ⊎ Has ys z) → (x ≡ z) ⊎ Has (y ∷ ys) z
  put_has Less x y z ys later h next = h
  put_has Equal x y z ys later h next = inr h
  put_has Greater x y z ys later (inl is) next = inr (inl is)
  put_has Greater x y z ys later (inr more) next = elim (next more) [
    | inl is ↦ inl is
    | inr old ↦ inr (inr old)
  ]

  inserted : (x z : K) (ys : List K) → Has (insert_key R ys x) z → (x ≡ z) ⊎ Has ys z
  inserted x z [] h = h
  inserted x z (y ∷ ys) h = put_has (R x y) x y z ys (insert_key R ys x) h (inserted x z ys)

  has_put : (c : Ordering) (x y z : K) (ys later : List K) → R x y ≡ c → (x ≡ z) ⊎ Has (y ∷ ys) z → ((x ≡ z) ⊎ Has ys z → Has later z) → Has (match_ordering c (x ∷ y ∷ ys) (y ∷ ys) (y ∷ later)) z
  has_put Less x y z ys later e h next = h
  has_put Equal x y z ys later e (inl is) next = inl (sym (exact x y e) ∙ is)
  has_put Equal x y z ys later e (inr more) next = more
  has_put Greater x y z ys later e (inl is) next = inr (next (inl is))
  has_put Greater x y z ys later e (inr (inl is)) next = inl is
  has_put Greater x y z ys later e (inr (inr old)) next = inr (next (inr old))

  has_inserted : (x z : K) (ys : List K) → (x ≡ z) ⊎ Has ys z → Has (insert_key R ys x) z
  has_inserted x z [] h = h
  has_inserted x z (y ∷ ys) h = has_put (R x y) x y z ys (insert_key R ys x) refl h (has_inserted x z ys)

  pub ordered_has : (xs : List K) (z : K) → Has (in_order R xs) z → Has xs z
  unfolding in_order
  ordered_has [] z h = h
  ordered_has (x ∷ xs) z h = elim (inserted x z (in_order R xs) h) [
    | inl is ↦ inl is
    | inr more ↦ inr (ordered_has xs z more)
  ]

  pub has_ordered : (xs : List K) (z : K) → Has xs z → Has (in_order R xs) z
  unfolding in_order
  has_ordered [] z h = h
  has_ordered (x ∷ xs) z (inl is) = has_inserted x z (in_order R xs) (inl is)
  has_ordered (x ∷ xs) z (inr more) = has_inserted x z (in_order R xs) (inr (has_ordered xs z more))

  pub ordered_ascends : (xs : List K) → IsStrictlySortedBy R (in_order R xs)
  unfolding in_order IsStrictlySortedBy
  ordered_ascends [] = tt
  ordered_ascends (x ∷ xs) = ascending-insert_key o (in_order R xs) x (ordered_ascends xs)
