-- Two ascending lists that are walked together: each of the first is met in the second, or one is.
use Rattle.std.proofs.Common.{◌≡◌, ◌↔◌, List, [], ◌∷◌, Bool, true, false, if◌then◌else◌, IsTrue, Contains, refl, sym, ap, subst, ◌∙◌, inl, inr}
use Rattle.std.specs.List.Sorted.{IsStrictlySortedBy}
use Rattle.std.specs.Cmp.{IsTotalOrder}
use Rattle.std.specs.declared.cmp.Ordering.{Ordering}
use Rattle.std.specs.declared.cmp.Ordering.TheVariants.{Less, Equal}
use Rattle.std.specs.Ordering.{is_lt, is_eq}
use Rattle.std.proofs.lemmas.Bool.{and_from, and_parts, or_cases, or_left, or_right}
use Rattle.std.proofs.lemmas.Cmp.{tied_itself}
use Rattle.std.proofs.lemmas.Map.Keys.{sorted_tail}
use Rattle.std.proofs.lemmas.Map.Lookups.{CmpEqualImpliesEq}
use Rattle.sc_lists.proofs.ListLaws.{contains_first, contains_rest, contains_split, contains_nothing}
use Rattle.sc_lists.proofs.OrderingLaws.{is_eq_true, is_lt_true}
use Rattle.sc_values.specs.declared.value.Value.{Value}
use Rattle.sc_values.specs.Order.{value_cmp}
use Rattle.sc_values.specs.Sets.{IsSubset, Meets}
use Rattle.sc_values.specs.Walks.{from, starts_with, meets_all, meets_one}
use Rattle.sc_values.proofs.AscendingLaws.{not_below, both_below, first_below}
use Rattle.sc_values.proofs.OrderLaws.{value_cmp_total, value_cmp_exact}

module _ {K : Type 0} {R : K → K → Ordering} (o : IsTotalOrder R) (exact : CmpEqualImpliesEq R) where
  -- ---- members that are passed

  has_on : (b : Bool) (rest : List K) (y : K) (ys : List K) (u : K) → (Contains rest u → Contains ys u) → Contains (if b then rest else y ∷ ys) u → Contains (y ∷ ys) u
  has_on true rest y ys u within has = contains_rest y ys u (within has)
  has_on false rest y ys u within has = has

  from_has : (x : K) (ys : List K) (u : K) → Contains (from R x ys) u → Contains ys u
  from_has x [] u has = has
  from_has x (y ∷ ys) u has = has_on (is_lt (R y x)) (from R x ys) y ys u (from_has x ys u) has

  kept_on : (b : Bool) (x : K) (rest : List K) (y : K) (ys : List K) (u : K) → is_lt (R y x) ≡ b → (R u x ≡ Less → ⊥) → (Contains ys u → Contains rest u)
      → Contains (y ∷ ys) u → Contains (if b then rest else y ∷ ys) u
  kept_on true x rest y ys u e above within has = elim (contains_split y ys u has) [
    | inl here ↦ absurd (above (subst (λ (v : K). R v x ≡ Less) here (is_lt_true (R y x) e)))
    | inr later ↦ within later
  ]
  kept_on false x rest y ys u e above within has = has

  -- one that isn't below x isn't passed
  from_keeps : (x : K) (ys : List K) (u : K) → (R u x ≡ Less → ⊥) → Contains ys u → Contains (from R x ys) u
  from_keeps x [] u above has = has
  from_keeps x (y ∷ ys) u above has = kept_on (is_lt (R y x)) x (from R x ys) y ys u refl above (from_keeps x ys u above) has

  ascends_on : (b : Bool) (rest : List K) (y : K) (ys : List K) → IsStrictlySortedBy R rest → IsStrictlySortedBy R (y ∷ ys) → IsStrictlySortedBy R (if b then rest else y ∷ ys)
  ascends_on true rest y ys a b = a
  ascends_on false rest y ys a b = b

  from_ascends : (x : K) (ys : List K) → IsStrictlySortedBy R ys → IsStrictlySortedBy R (from R x ys)
  from_ascends x [] a = a
  from_ascends x (y ∷ ys) a = ascends_on (is_lt (R y x)) (from R x ys) y ys (from_ascends x ys (sorted_tail R y ys a)) a

  -- ---- x comes next where it is there at all

  starts_has : (x : K) (ys : List K) → IsTrue (starts_with R x ys) → Contains ys x
  starts_has x [] h = cc
  starts_has x (y ∷ ys) h = subst (Contains (y ∷ ys)) (exact y x (is_eq_true (R y x) h)) (contains_first y ys)

  starts_on : (b : Bool) (x : K) (rest : List K) (y : K) (ys : List K) → is_lt (R y x) ≡ b → IsStrictlySortedBy R (y ∷ ys)
      → (Contains ys x → IsTrue (starts_with R x rest)) → Contains (y ∷ ys) x → IsTrue (starts_with R x (if b then rest else y ∷ ys))
  starts_on true x rest y ys e a next has = elim (contains_split y ys x has) [
    | inl here ↦ absurd (not_below o exact x (subst (λ (v : K). R v x ≡ Less) here (is_lt_true (R y x) e)))
    | inr later ↦ next later
  ]
  starts_on false x rest y ys e a next has = elim (contains_split y ys x has) [
    | inl here ↦ ap is_eq (subst (λ (v : K). R v x ≡ Equal) (sym here) (tied_itself o x))
    | inr later ↦ let below : true ≡ false = ap is_lt (sym (first_below o exact y ys x a later)) ∙ e in absurd cc
  ]

  starts_there : (x : K) (ys : List K) → IsStrictlySortedBy R ys → Contains ys x → IsTrue (starts_with R x (from R x ys))
  starts_there x [] a has = absurd (contains_nothing x has)
  starts_there x (y ∷ ys) a has = starts_on (is_lt (R y x)) x (from R x ys) y ys refl a (starts_there x ys (sorted_tail R y ys a)) has

  -- the rest of an ascending list is above its first
  above_first : (x : K) (xs : List K) (u : K) → IsStrictlySortedBy R (x ∷ xs) → Contains xs u → R u x ≡ Less → ⊥
  above_first x xs u a has below = both_below o exact x u (first_below o exact x xs u a has) below

  -- ---- the walks

  pub meets_all-decides : (xs ys : List K) → IsStrictlySortedBy R xs → IsStrictlySortedBy R ys → IsTrue (meets_all R xs ys) ↔ ((u : K) → Contains xs u → Contains ys u)
  meets_all-decides [] ys a b = (λ h u has. absurd (contains_nothing u has), λ h. refl)
  meets_all-decides (x ∷ xs) ys a b =
      let later = meets_all-decides xs (from R x ys) (sorted_tail R x xs a) (from_ascends x ys b) in
      let here : Bool = starts_with R x (from R x ys) in
      let rest : Bool = meets_all R xs (from R x ys) in (
        λ h u has. elim (contains_split x xs u has) [
          | inl is ↦ subst (Contains ys) is (from_has x ys x (starts_has x (from R x ys) (and_parts here rest h).0))
          | inr more ↦ from_has x ys u (later.0 (and_parts here rest h).1 u more)
        ],
        λ h.
            and_from here rest (starts_there x ys b (h x (contains_first x xs)))
            (later.1 (λ u more. from_keeps x ys u (above_first x xs u a more) (h u (contains_rest x xs u more)))),
      )

  pub meets_one-decides : (xs ys : List K) → IsStrictlySortedBy R xs → IsStrictlySortedBy R ys → IsTrue (meets_one R xs ys) ↔ ((u : K) × Contains xs u × Contains ys u)
  meets_one-decides [] ys a b = (λ h. cc, λ h. absurd (contains_nothing h.0 h.1))
  meets_one-decides (x ∷ xs) ys a b =
      let later = meets_one-decides xs (from R x ys) (sorted_tail R x xs a) (from_ascends x ys b) in
      let here : Bool = starts_with R x (from R x ys) in
      let rest : Bool = meets_one R xs (from R x ys) in (
        λ h. elim (or_cases here rest h) [
          | inl is ↦ (x, contains_first x xs, from_has x ys x (starts_has x (from R x ys) is))
          | inr more ↦ let m = later.0 more in (m.0, contains_rest x xs m.0 m.1, from_has x ys m.0 m.2)
        ],
        λ h. elim (contains_split x xs h.0 h.1) [
          | inl is ↦ or_left here rest (starts_there x ys b (subst (Contains ys) (sym is) h.2))
          | inr more ↦ or_right here rest (later.1 (h.0, more, from_keeps x ys h.0 (above_first x xs h.0 a more) h.2))
        ],
      )

-- ---- at the order of values

pub each_is_met : (r : Bool) (s t : List Value) → IsStrictlySortedBy value_cmp s → IsStrictlySortedBy value_cmp t → r ≡ meets_all value_cmp s t → IsTrue r ↔ IsSubset s t
each_is_met r s t a b is = subst (λ (q : Bool). IsTrue q ↔ IsSubset s t) (sym is) (meets_all-decides value_cmp_total value_cmp_exact s t a b)

pub one_is_met : (r : Bool) (s t : List Value) → IsStrictlySortedBy value_cmp s → IsStrictlySortedBy value_cmp t → r ≡ meets_one value_cmp s t → IsTrue r ↔ Meets s t
one_is_met r s t a b is = subst (λ (q : Bool). IsTrue q ↔ Meets s t) (sym is) (meets_one-decides value_cmp_total value_cmp_exact s t a b)
