-- What the place of a key in a list that ascends tells.
use Rattle.std.proofs.Common.{◌≡◌, ℕ, ◌<◌, zero, suc, List, [], ◌∷◌, map, length, get_or, Bool, true, false, cond, Ok, Err, Option, Some, None, refl, sym, ap, subst, ◌∙◌, inl, inr, arith, Contains, find}
use Rattle.std.specs.Bool.{Decides}
use Rattle.std.specs.Str.{bytes_eq}
use Rattle.std.proofs.lemmas.Slice.Eq.{bytes_eq-Decides}
use Rattle.sc_names.specs.declared.uid.Uid.{Uid}
use Rattle.sc_schema.specs.Declarations.{uid_eq}
use Rattle.std.specs.List.{AllByRecursion, slice_get}
use Rattle.std.specs.List.Sorted.{IsStrictlySortedBy, IsBinarySearchResult}
use Rattle.std.specs.Cmp.{IsTotalOrder}
use Rattle.std.specs.declared.cmp.Ordering.{Ordering}
use Rattle.std.specs.declared.cmp.Ordering.TheVariants.{Less, Greater}
use Rattle.std.proofs.lemmas.Bool.{cases_lt, and_parts}
use Rattle.std.proofs.lemmas.List.Sorted.{searchable_from_sorted}
use Rattle.std.proofs.lemmas.Map.Keys.{sorted_head, sorted_tail}
use Rattle.std.proofs.lemmas.Map.Lookups.{CmpEqualImpliesEq}
use Rattle.std.proofs.lemmas.Option.{slice_get-get_or}
use Rattle.sc_lists.proofs.ListLaws.{contains_rest, contains_first}
use Rattle.sc_schema.proofs.OrderLaws.{not_below, not_above, sorted_from_strict}

-- ---- what a binary search finds

pub searched : {K : Type 0} {R : K → K → Ordering} → CmpEqualImpliesEq R → (xs : List K) (k : K) (i : ℕ) → i < length xs → IsBinarySearchResult (λ y. R y k) xs (Ok i) → slice_get xs i ≡ Some k
searched level xs k i within search = slice_get-get_or xs i k within ∙ ap Some (level (get_or xs i k) k (search k))

pub absent : {K : Type 0} {R : K → K → Ordering} (o : IsTotalOrder R) (xs : List K) (k : K) (i : ℕ) → IsStrictlySortedBy R xs → IsBinarySearchResult (λ y. R y k) xs (Err i) → ¬ Contains xs k
absent {K} {R} o xs k i a search = λ has.
    let parts = search (searchable_from_sorted o (λ (y : K). y) xs k (sorted_from_strict o xs a)) in
    let is : get_or xs has.0 k ≡ k = has.2 in
    elim (cases_lt has.0 i) [
      | inl before ↦ not_below o k (subst (λ (y : K). R y k ≡ Less) is (parts.0 has.0 k (omega arith) before))
      | inr after ↦ not_above o k (subst (λ (y : K). R y k ≡ Greater) is (parts.1 has.0 k after has.1))
    ]

-- ---- a list by the keys of its elements

pub all_at : {X : Type 0} (P : X → Type 0) (xs : List X) (i : ℕ) (x : X) → AllByRecursion P xs → slice_get xs i ≡ Some x → P x
all_at P [] i x h e = absurd cc
all_at P (y ∷ ys) zero x h e = let is : y ≡ x = cc in subst P is h.0
all_at P (y ∷ ys) (suc i) x h e = all_at P ys i x h.1 e

passes_over : {X : Type 0} (b : Bool) (x : X) (o p : Option X) → (b ≡ true → ⊥) → o ≡ p → o ≡ cond b (Some x) p
passes_over true x o p h e = absurd (h refl)
passes_over false x o p h e = e

takes : {X : Type 0} (b : Bool) (x : X) (p : Option X) → b ≡ true → Some x ≡ cond b (Some x) p
takes true x p h = refl
takes false x p h = absurd cc

-- the element whose key stands at a place is the one that is found by the key
pub find_place : {X K : Type 0} {R : K → K → Ordering} (o : IsTotalOrder R) (same : K → K → Bool) (decides : (a b : K) → Decides (same a b) (a ≡ b)) (key : X → K) (xs : List X) (k : K) (i : ℕ)
    → IsStrictlySortedBy R (map key xs) → slice_get (map key xs) i ≡ Some k → slice_get xs i ≡ find (λ x. same k (key x)) xs
find_place o same decides key [] k i a e = absurd cc
find_place o same decides key (x ∷ xs) k zero a e = takes (same k (key x)) x _ ((decides k (key x)).1 cc)
find_place {X} {K} {R} o same decides key (x ∷ xs) k (suc i) a e =
    let less : R (key x) k ≡ Less = all_at (λ y. R (key x) y ≡ Less) (map key xs) i k (sorted_head R (key x) (map key xs) a) e in
    let later = find_place o same decides key xs k i (sorted_tail R (key x) (map key xs) a) e in
    passes_over (same k (key x)) x _ _ (λ h. not_below o k (subst (λ y. R y k ≡ Less) (sym ((decides k (key x)).0 h)) less)) later

-- and none is found by a key that none has
pub find_none : {X K : Type 0} (same : K → K → Bool) (decides : (a b : K) → Decides (same a b) (a ≡ b)) (key : X → K) (xs : List X) (k : K) → ¬ Contains (map key xs) k → None ≡ find (λ x. same k (key x)) xs
find_none same decides key [] k h = refl
find_none same decides key (x ∷ xs) k h =
    passes_over (same k (key x)) x _ _ (λ is. h (subst (λ y. Contains (y ∷ map key xs) k) ((decides k (key x)).0 is) (contains_first k (map key xs))))
    (find_none same decides key xs k (λ has. h (contains_rest (key x) (map key xs) k has)))

pub uid_eq-Decides : (a b : Uid) → Decides (uid_eq a b) (a ≡ b)
uid_eq-Decides a b = (
  λ h.
      let parts = and_parts (bytes_eq a.type_name b.type_name) (bytes_eq a.id b.id) h in
      let one_type : a.type_name ≡ b.type_name = (bytes_eq-Decides a.type_name b.type_name).0 parts.0 in
      let one_id : a.id ≡ b.id = (bytes_eq-Decides a.id b.id).0 parts.1 in
      λ i. record { type_name = one_type i; id = one_id i },
  λ e. subst (λ (c : Uid). uid_eq a c ≡ true) e (rw ((bytes_eq-Decides a.type_name a.type_name).1 refl, (bytes_eq-Decides a.id a.id).1 refl) refl),
)
