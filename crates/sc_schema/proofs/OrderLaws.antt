-- Total orders in which only equal keys are level, and lists that ascend by them.
use Rattle.std.proofs.Common.{◌≡◌, ◌+◌, List, ◌∷◌, get_or, refl, sym, ap, ◌∙◌, arith, Contains}
use Rattle.std.specs.List.Sorted.{IsSorted, IsStrictlySortedBy}
use Rattle.std.specs.Cmp.{IsTotalOrder}
use Rattle.std.specs.declared.cmp.Ordering.{Ordering}
use Rattle.std.specs.declared.cmp.Ordering.TheVariants.{Less, Equal, Greater}
use Rattle.std.specs.Ordering.{is_lt, ordering_reverse}
use Rattle.std.proofs.lemmas.List.Elements.{All-contains, All-from_recursion}
use Rattle.std.proofs.lemmas.Map.Keys.{sorted_head, Less-from_sorted}

pub not_below : {K : Type 0} {R : K → K → Ordering} (o : IsTotalOrder R) (k : K) → R k k ≡ Less → ⊥
not_below o k h =
    let turned : Less ≡ Greater = sym h ∙ o.antisymm k k ∙ ap ordering_reverse h in
    cc

pub not_above : {K : Type 0} {R : K → K → Ordering} (o : IsTotalOrder R) (k : K) → R k k ≡ Greater → ⊥
not_above o k h =
    let turned : Greater ≡ Less = sym h ∙ o.antisymm k k ∙ ap ordering_reverse h in
    cc

pub both_below : {K : Type 0} {R : K → K → Ordering} (o : IsTotalOrder R) (x y : K) → R x y ≡ Less → R y x ≡ Less → ⊥
both_below o x y h k =
    let turned : Less ≡ Greater = sym h ∙ o.antisymm x y ∙ ap ordering_reverse k in
    cc

pub level_itself : {K : Type 0} {R : K → K → Ordering} (o : IsTotalOrder R) (k : K) → R k k ≡ Equal
level_itself {K} {R} o k = level (R k k) (not_below o k) (not_above o k) where
  level : (r : Ordering) → (r ≡ Less → ⊥) → (r ≡ Greater → ⊥) → r ≡ Equal
  level Less h k = absurd (h refl)
  level Equal h k = refl
  level Greater h k = absurd (k refl)

pub above_from_below : {K : Type 0} {R : K → K → Ordering} (o : IsTotalOrder R) (x y : K) → R x y ≡ Less → R y x ≡ Greater
above_from_below o x y h = o.antisymm y x ∙ ap ordering_reverse h

pub below_from_above : {K : Type 0} {R : K → K → Ordering} (o : IsTotalOrder R) (x y : K) → R x y ≡ Greater → R y x ≡ Less
below_from_above o x y h = o.antisymm y x ∙ ap ordering_reverse h

pub sorted_from_strict : {K : Type 0} {R : K → K → Ordering} (o : IsTotalOrder R) (xs : List K) → IsStrictlySortedBy R xs → IsSorted R xs
sorted_from_strict {K} {R} o xs a k d low high =
    ap is_lt (o.antisymm (get_or xs (k + 1) d) (get_or xs k d) ∙ ap ordering_reverse (Less-from_sorted R xs k (k + 1) d a (omega arith) high))

-- ---- the elements of a list

pub first_below : {K : Type 0} (R : K → K → Ordering) (x : K) (xs : List K) (y : K) → IsStrictlySortedBy R (x ∷ xs) → Contains xs y → R x y ≡ Less
first_below R x xs y a has = All-contains (λ z. R x z ≡ Less) xs y (All-from_recursion (λ z. R x z ≡ Less) xs (sorted_head R x xs a)) has
