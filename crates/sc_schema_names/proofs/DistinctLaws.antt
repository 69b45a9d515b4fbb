-- Lists in which each element stands once, namespace by namespace.
use Rattle.std.proofs.Common.{◌≡◌, ◌≢◌, ◌∙◌, ℕ, List, [], ◌∷◌, ◌++◌, map, Bool, false, Less, Equal, sym, ap}
use Rattle.std.specs.List.{AllByRecursion, flat_map, IsDistinct}
use Rattle.std.specs.List.Sorted.{IsStrictlySortedBy}
use Rattle.std.proofs.lemmas.Cmp.{nat_list_cmp_total, tied_itself}
use Rattle.sc_lists.proofs.ListLaws.{all_append, all_weaker, all_always}
use Rattle.sc_names.specs.Uids.{text_cmp}

-- ---- all elements

pub all-map : {X Y : Type 0} (P : Y → Type 0) (f : X → Y) (xs : List X) → AllByRecursion (λ x. P (f x)) xs → AllByRecursion P (map f xs)
all-map P f [] h = tt
all-map P f (x ∷ xs) h = (h.0, all-map P f xs h.1)

pub all-unmap : {X Y : Type 0} (P : Y → Type 0) (f : X → Y) (xs : List X) → AllByRecursion P (map f xs) → AllByRecursion (λ x. P (f x)) xs
all-unmap P f [] h = tt
all-unmap P f (x ∷ xs) h = (h.0, all-unmap P f xs h.1)

pub all-flat_map : {N X : Type 0} (P : X → Type 0) (f : N → List X) (ns : List N) → AllByRecursion (λ n. AllByRecursion P (f n)) ns → AllByRecursion P (flat_map f ns)
all-flat_map P f [] h = tt
all-flat_map P f (n ∷ ns) h = all_append P (f n) (flat_map f ns) h.0 (all-flat_map P f ns h.1)

-- ---- texts that differ

pub below_differ : (x y : List ℕ) → text_cmp x y ≡ Less → x ≢ y
below_differ x y less e =
    let level : text_cmp x x ≡ Equal = tied_itself nat_list_cmp_total x in
    let both : Less ≡ Equal = sym less ∙ (ap (text_cmp x) (sym e) ∙ level) in
    cc

-- ---- each element once

module _ {X : Type 0} (eq : X → X → Bool) where
  -- each of these differs from each of those
  abbrev pub Apart : List X → List X → Type 0
  Apart xs ys = AllByRecursion (λ x. AllByRecursion (λ y. eq x y ≡ false) ys) xs

  distinct-append : (xs ys : List X) → IsDistinct eq xs → IsDistinct eq ys → Apart xs ys → IsDistinct eq (xs ++ ys)
  unfolding IsDistinct
  distinct-append [] ys h k apart = k
  distinct-append (x ∷ xs) ys h k apart = (all_append (λ y. eq x y ≡ false) xs ys h.0 apart.0, distinct-append xs ys h.1 k apart.1)

  -- elements that are made of items in the order of their names
  pub distinct-map : {I : Type 0} (name : I → List ℕ) (make : I → X) → ((a b : I) → text_cmp (name a) (name b) ≡ Less → eq (make a) (make b) ≡ false) → (is : List I)
      → IsStrictlySortedBy text_cmp (map name is) → IsDistinct eq (map make is)
  unfolding IsDistinct IsStrictlySortedBy
  distinct-map name make apart [] h = tt
  distinct-map name make apart (i ∷ is) h = (
    all-map (λ y. eq (make i) y ≡ false) make is (all_weaker (λ j. text_cmp (name i) (name j) ≡ Less) (λ j. eq (make i) (make j) ≡ false) (apart i) is (all-unmap (λ y. text_cmp (name i) y ≡ Less) name is h.0)),
    distinct-map name make apart is h.1,
  )

  module _ {N : Type 0} (name : N → List ℕ) (f : N → List X) (Good : N → Type 0) (apart : (n m : N) → Good n → Good m → text_cmp (name n) (name m) ≡ Less → Apart (f n) (f m)) where
    apart_later : (n : N) → Good n → (ms : List N) → AllByRecursion Good ms → AllByRecursion (λ m. text_cmp (name n) m ≡ Less) (map name ms) → Apart (f n) (flat_map f ms)
    apart_later n good [] goods h = all_always (λ x. AllByRecursion (λ y. eq x y ≡ false) []) (λ x. tt) (f n)
    apart_later n good (m ∷ ms) goods h = both (f n) (apart n m good goods.0 h.0) (apart_later n good ms goods.1 h.1) where
      both : (xs : List X) → Apart xs (f m) → Apart xs (flat_map f ms) → Apart xs (f m ++ flat_map f ms)
      both [] p q = tt
      both (x ∷ xs) p q = (all_append (λ y. eq x y ≡ false) (f m) (flat_map f ms) p.0 q.0, both xs p.1 q.1)

    -- namespaces in the order of their names
    pub distinct-flat_map : (ns : List N) → AllByRecursion Good ns → IsStrictlySortedBy text_cmp (map name ns) → AllByRecursion (λ n. IsDistinct eq (f n)) ns → IsDistinct eq (flat_map f ns)
    unfolding IsDistinct IsStrictlySortedBy
    distinct-flat_map [] goods h each = tt
    distinct-flat_map (n ∷ ns) goods h each =
        distinct-append (f n) (flat_map f ns) each.0 (distinct-flat_map ns goods.1 h.1 each.1) (apart_later n goods.0 ns goods.1 h.0)
