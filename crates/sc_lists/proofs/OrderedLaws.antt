-- What a search in an ascending list finds, and what an insertion at that place leaves.
use Rattle.std.proofs.Common.{◌≡◌, ℕ, zero, suc, ◌+◌, ◌<◌, ◌≤◌, ◌↔◌, List, [], ◌∷◌, ◌++◌, length, take, drop, get_or, map, slice_get, Bool, true, false, ◌||◌, IsTrue, Option, Some, None, Result, Ok, Err, IfOk, IfErr, is_ok, OnOk, OnErr, IfSome, Ordering, Less, Equal, Greater, is_eq, refl, sym, ap, subst, ◌∙◌, arith}
use Rattle.std.specs.List.{AllByRecursion, AllWithin, AllAdjacentBelow, IsAllAdjacentAnswer, HoldsAt, insert}
use Rattle.std.specs.List.Sorted.{IsStrictlySortedBy, IsNonDecreasingBy, IsSearchInRange, IsBinarySearchResult}
use Rattle.std.specs.Map.{keys_of}
use Rattle.std.specs.BTreeMap.{is_at, insert_entry}
use Rattle.std.specs.BTreeSet.{insert_key}
use Rattle.std.specs.Ordering.{match_ordering, ordering_reverse, ordering_index, is_lt}
use Rattle.std.specs.Cmp.{IsTotalOrder}
use Rattle.std.proofs.lemmas.Cmp.{tied_itself, tied_back, alike_right}
use Rattle.std.proofs.lemmas.List.{get_or-map, length-map}
use Rattle.std.proofs.lemmas.List.Elements.{All-from_recursion, recursion_from_All}
use Rattle.std.proofs.lemmas.List.Sorted.{searchable_from_sorted}
use Rattle.std.proofs.lemmas.Map.Keys.{Less-from_sorted, sorted_from_all_adjacent}
use Rattle.sc_lists.proofs.ListLaws.{map_itself}
use Rattle.sc_lists.specs.Ordered.{is_in, value_at, StandsAt, BelongsAt}

-- ---- the empty list

pub none_ascends : {K : Type 0} (R : K → K → Ordering) (xs : List K) → xs ≡ [] → IsStrictlySortedBy R xs
unfolding IsStrictlySortedBy
none_ascends R xs is = subst (IsStrictlySortedBy R) (sym is) tt

pub no_pair_ascends : {K V : Type 0} (R : K → K → Ordering) (ps : List (K × V)) → ps ≡ [] → IsStrictlySortedBy R (keys_of ps)
no_pair_ascends R ps is = none_ascends R (keys_of ps) (ap keys_of is)

-- ---- the keys before and after a place

before : {X K : Type 0} (key : X → K) (P : K → Type 0) (xs : List X) (i : ℕ) → AllWithin (λ x. P (key x)) xs 0 i → AllByRecursion P (take i (map key xs))
before key P xs zero h = tt
before key P [] (suc i) h = tt
before key P (x ∷ xs) (suc i) h = (h 0 x (omega arith) (omega arith), before key P xs i (λ k d low high. h (suc k) d (omega arith) (omega arith)))

after : {X K : Type 0} (key : X → K) (P : K → Type 0) (xs : List X) (i : ℕ) → AllWithin (λ x. P (key x)) xs i (length xs) → AllByRecursion P (drop i (map key xs))
after key P [] zero h = tt
after key P [] (suc i) h = tt
after key P (x ∷ xs) zero h = (h 0 x (omega arith) (omega arith), after key P xs 0 (λ k d low high. h (suc k) d (omega arith) (omega arith)))
after key P (x ∷ xs) (suc i) h = after key P xs i (λ k d low high. h (suc k) d (omega arith) (omega arith))

module _ {K : Type 0} {R : K → K → Ordering} (o : IsTotalOrder R) where
  -- what is below one key is above it the other way round
  turned : (x y : K) → R y x ≡ Less → R x y ≡ Greater
  turned x y h = o.antisymm x y ∙ ap ordering_reverse h

  module _ {X : Type 0} (key : X → K) where
    -- ---- whether neighbours ascend

    next_below : (xs : List X) (k : ℕ) (d : X) → IsStrictlySortedBy R (map key xs) → k + 1 < length xs → R (key (get_or xs k d)) (key (get_or xs (k + 1) d)) ≡ Less
    next_below xs k d s high =
        rw (sym (get_or-map key xs k d (key d) (omega arith)), sym (get_or-map key xs (k + 1) d (key d) high)) (Less-from_sorted R (map key xs) k (k + 1) (key d) s (omega arith) (rw (length-map xs key) high))

    is_less : (r : Ordering) → true ≡ is_lt r → r ≡ Less
    is_less Less h = refl
    is_less Equal h = absurd cc
    is_less Greater h = absurd cc

    ascends : (xs : List X) (d : X) → AllAdjacentBelow (λ x y. true ≡ is_lt (R (key x) (key y))) xs (length xs) → IsStrictlySortedBy R (map key xs)
    ascends xs d h = sorted_from_all_adjacent o (map key xs) (key d) (λ k high.
        let within : k + 1 < length xs = rw (length-map xs key) at high in
        rw (get_or-map key xs k d (key d) (omega arith), get_or-map key xs (k + 1) d (key d) within) (is_less _ (h k d within)))

    ascends_at_true : (xs : List X) → AllAdjacentBelow (λ x y. true ≡ is_lt (R (key x) (key y))) xs (length xs) → IsStrictlySortedBy R (map key xs)
    unfolding IsStrictlySortedBy
    ascends_at_true [] h = tt
    ascends_at_true (x ∷ xs) h = ascends (x ∷ xs) x h

    pub decides_ascending : (xs : List X) (b : Bool) → IsAllAdjacentAnswer (λ x y t. t ≡ is_lt (R (key x) (key y))) xs b → IsTrue b ↔ IsStrictlySortedBy R (map key xs)
    decides_ascending xs true h = (λ t. ascends_at_true xs h, λ s. refl)
    decides_ascending [] false h = absurd (omega (arith, h.1))
    decides_ascending (x ∷ xs) false h = (
      λ t. absurd cc,
      λ s. absurd (
          let less : R (key (get_or (x ∷ xs) h.0 x)) (key (get_or (x ∷ xs) (h.0 + 1) x)) ≡ Less = next_below (x ∷ xs) h.0 x s h.1 in
          let no : false ≡ true = h.2 x ∙ ap is_lt less in
          cc),
    )

    -- ---- what a binary search found

    rises : (xs : List X) (x : K) → IsStrictlySortedBy R (map key xs) → IsNonDecreasingBy (λ y. ordering_index (R (key y) x)) xs
    rises xs x s = searchable_from_sorted o key xs x (λ k d low high. ap is_lt (o.antisymm _ _ ∙ ap ordering_reverse (next_below xs k d s high)))

    stands : (xs : List X) (x : K) (i : ℕ) → i < length xs → HoldsAt (λ y. R (key y) x ≡ Equal) xs i → StandsAt R (map key xs) x i
    stands [] x i l h = absurd (omega arith)
    stands (y ∷ ys) x zero l h = tied_back o (key y) x (h y)
    stands (y ∷ ys) x (suc i) l h = stands ys x i (omega arith) (λ d. h d)

    belongs : (xs : List X) (x : K) (i : ℕ) → i ≤ length xs → AllWithin (λ y. R (key y) x ≡ Less) xs 0 i → AllWithin (λ y. R (key y) x ≡ Greater) xs i (length xs) → BelongsAt R (map key xs) x i
    belongs xs x i l low high = record {
      within = rw (length-map xs key) l;
      above = All-from_recursion _ (take i (map key xs)) (before key (λ y. R y x ≡ Less) xs i low);
      below = All-from_recursion _ (drop i (map key xs)) (after key (λ y. R x y ≡ Less) xs i (λ k d a b. o.antisymm x _ ∙ ap ordering_reverse (high k d a b)));
    }

    pub searched : (xs : List X) (x : K) (r : Result ℕ ℕ) → IsStrictlySortedBy R (map key xs) → IsSearchInRange r (length xs) → IsBinarySearchResult (λ y. R (key y) x) xs r
        → IfOk r (StandsAt R (map key xs) x) × IfErr r (BelongsAt R (map key xs) x)
    searched xs x (Ok i) s within found = (stands xs x i within found, tt)
    searched xs x (Err i) s within found =
        let parts = found (rises xs x s) in
        (tt, belongs xs x i within parts.0 parts.1)

  -- of members, which are their own keys

  pub members_decide : (xs : List K) (b : Bool) → IsAllAdjacentAnswer (λ x y t. t ≡ is_lt (R x y)) xs b → IsTrue b ↔ IsStrictlySortedBy R xs
  members_decide xs b h = subst (λ ks. IsTrue b ↔ IsStrictlySortedBy R ks) (map_itself xs) (decides_ascending (λ x. x) xs b h)

  pub members_searched : (xs : List K) (x : K) (r : Result ℕ ℕ) → IsStrictlySortedBy R xs → IsSearchInRange r (length xs) → IsBinarySearchResult (λ y. R y x) xs r
      → IfOk r (StandsAt R xs x) × IfErr r (BelongsAt R xs x)
  members_searched xs x r s within found =
      subst (λ ks. IfOk r (StandsAt R ks x) × IfErr r (BelongsAt R ks x)) (map_itself xs) (searched (λ y. y) xs x r (subst (IsStrictlySortedBy R) (sym (map_itself xs)) s) within found)

  -- a key before the one that is level with x is below x
  below_level : (y : K) (ys : List K) (x : K) (i : ℕ) → AllByRecursion (λ z. R y z ≡ Less) ys → StandsAt R ys x i → R x y ≡ Greater
  below_level y [] x i h at = absurd at
  below_level y (z ∷ zs) x zero h at = o.congr x z y at ∙ turned z y h.0
  below_level y (z ∷ zs) x (suc i) h at = below_level y zs x i h.1 at

  -- ---- members

  pub insert_key-stands : (xs : List K) (x : K) (i : ℕ) → IsStrictlySortedBy R xs → StandsAt R xs x i → insert_key R xs x ≡ xs
  unfolding IsStrictlySortedBy
  insert_key-stands [] x i s at = absurd at
  insert_key-stands (y ∷ ys) x zero s at = rw at refl
  insert_key-stands (y ∷ ys) x (suc i) s at = rw (below_level y ys x i s.0 at) (ap (λ l. y ∷ l) (insert_key-stands ys x i s.1 at))

  insert_key-gap : (xs : List K) (x : K) (i : ℕ) → AllByRecursion (λ y. R y x ≡ Less) (take i xs) → AllByRecursion (λ y. R x y ≡ Less) (drop i xs) → insert_key R xs x ≡ insert xs i x
  insert_key-gap [] x zero low high = refl
  insert_key-gap [] x (suc i) low high = refl
  insert_key-gap (y ∷ ys) x zero low high = rw high.0 refl
  insert_key-gap (y ∷ ys) x (suc i) low high = rw (turned x y low.0) (ap (λ l. y ∷ l) (insert_key-gap ys x i low.1 high))

  pub insert_key-belongs : (xs : List K) (x : K) (i : ℕ) → BelongsAt R xs x i → insert_key R xs x ≡ insert xs i x
  insert_key-belongs xs x i h = insert_key-gap xs x i (recursion_from_All _ (take i xs) h.above) (recursion_from_All _ (drop i xs) h.below)

  pub is_in-stands : (xs : List K) (x : K) (i : ℕ) → StandsAt R xs x i → is_in R x xs ≡ true
  is_in-stands [] x i at = absurd at
  is_in-stands (y ∷ ys) x zero at = rw at refl
  is_in-stands (y ∷ ys) x (suc i) at = rw (is_in-stands ys x i at) (or_true (is_at (R x) y)) where
    or_true : (b : Bool) → b || true ≡ true
    or_true true = refl
    or_true false = refl

  is_in-gap : (xs : List K) (x : K) (i : ℕ) → AllByRecursion (λ y. R y x ≡ Less) (take i xs) → AllByRecursion (λ y. R x y ≡ Less) (drop i xs) → is_in R x xs ≡ false
  is_in-gap [] x i low high = refl
  is_in-gap (y ∷ ys) x zero low high = rw high.0 (is_in-gap ys x 0 tt high.1)
  is_in-gap (y ∷ ys) x (suc i) low high = rw (turned x y low.0) (is_in-gap ys x i low.1 high)

  pub is_in-belongs : (xs : List K) (x : K) (i : ℕ) → BelongsAt R xs x i → is_in R x xs ≡ false
  is_in-belongs xs x i h = is_in-gap xs x i (recursion_from_All _ (take i xs) h.above) (recursion_from_All _ (drop i xs) h.below)

  pub is_in_place : (xs : List K) (x : K) (r : Result ℕ ℕ) → IfOk r (StandsAt R xs x) → IfErr r (BelongsAt R xs x) → is_ok r ≡ is_in R x xs
  is_in_place xs x (Ok i) at none = sym (is_in-stands xs x i at)
  is_in_place xs x (Err i) none at = sym (is_in-belongs xs x i at)

  -- the members afterwards are those before and the new one
  one_more_at : (r : Ordering) (z : K) (zs : List K) (x y : K) → R x z ≡ r → is_in R y (insert_key R zs x) ≡ (is_in R y zs || is_at (R y) x)
      → is_in R y (match_ordering r (x ∷ z ∷ zs) (z ∷ zs) (z ∷ insert_key R zs x)) ≡ ((is_at (R y) z || is_in R y zs) || is_at (R y) x)
  one_more_at Less z zs x y e h = turn (is_at (R y) x) (is_at (R y) z || is_in R y zs) where
    turn : (a b : Bool) → a || b ≡ b || a
    turn true true = refl
    turn true false = refl
    turn false true = refl
    turn false false = refl
  one_more_at Equal z zs x y e h = rw (ap is_eq (alike_right o x z y e)) (again (is_at (R y) z) (is_in R y zs)) where
    again : (a b : Bool) → a || b ≡ (a || b) || a
    again true b = refl
    again false true = refl
    again false false = refl
  one_more_at Greater z zs x y e h = rw h (regroup (is_at (R y) z) (is_in R y zs) (is_at (R y) x)) where
    regroup : (a b c : Bool) → a || (b || c) ≡ (a || b) || c
    regroup true b c = refl
    regroup false b c = refl

  pub is_in-insert_key : (xs : List K) (x y : K) → is_in R y (insert_key R xs x) ≡ (is_in R y xs || is_at (R y) x)
  is_in-insert_key [] x y = none (is_at (R y) x) where
    none : (a : Bool) → a || false ≡ a
    none true = refl
    none false = refl
  is_in-insert_key (z ∷ zs) x y = one_more_at (R x z) z zs x y refl (is_in-insert_key zs x y)

  -- a key below the first is below all
  below_all : (x y : K) (ys : List K) → R x y ≡ Less → AllByRecursion (λ z. R y z ≡ Less) ys → AllByRecursion (λ z. R x z ≡ Less) ys
  below_all x y [] l h = tt
  below_all x y (z ∷ zs) l h = (o.trans x y z l h.0, below_all x y zs l h.1)

  all_at : (r : Ordering) (P : K → Type 0) (x y : K) (ys : List K) → P x → P y → AllByRecursion P ys → AllByRecursion P (insert_key R ys x) → AllByRecursion P (match_ordering r (x ∷ y ∷ ys) (y ∷ ys) (y ∷ insert_key R ys x))
  all_at Less P x y ys new first rest later = (new, (first, rest))
  all_at Equal P x y ys new first rest later = (first, rest)
  all_at Greater P x y ys new first rest later = (first, later)

  all-insert_key : (P : K → Type 0) (ys : List K) (x : K) → P x → AllByRecursion P ys → AllByRecursion P (insert_key R ys x)
  all-insert_key P [] x new h = (new, tt)
  all-insert_key P (y ∷ ys) x new h = all_at (R x y) P x y ys new h.0 h.1 (all-insert_key P ys x new h.1)

  ascending_at : (r : Ordering) (x y : K) (ys : List K) → R x y ≡ r → AllByRecursion (λ z. R y z ≡ Less) ys → IsStrictlySortedBy R ys → IsStrictlySortedBy R (insert_key R ys x) → IsStrictlySortedBy R (match_ordering r (x ∷ y ∷ ys) (y ∷ ys) (y ∷ insert_key R ys x))
  unfolding IsStrictlySortedBy
  ascending_at Less x y ys e first rest later = ((e, below_all x y ys e first), (first, rest))
  ascending_at Equal x y ys e first rest later = (first, rest)
  ascending_at Greater x y ys e first rest later = (all-insert_key (λ z. R y z ≡ Less) ys x (o.antisymm y x ∙ ap ordering_reverse e) first, later)

  pub ascending-insert_key : (xs : List K) (x : K) → IsStrictlySortedBy R xs → IsStrictlySortedBy R (insert_key R xs x)
  unfolding IsStrictlySortedBy
  ascending-insert_key [] x s = (tt, tt)
  ascending-insert_key (y ∷ ys) x s = ascending_at (R x y) x y ys refl s.0 s.1 (ascending-insert_key ys x s.1)

  -- ---- what `put` leaves, where an insertion may want memory

  pub put_new : {A E : Type 0} (r : Result A E) (xs ys : List K) (x : K) (i : ℕ) → BelongsAt R xs x i → OnOk r (ys ≡ insert xs i x) → OnOk r (ys ≡ insert_key R xs x)
  put_new (Ok a) xs ys x i h is = is ∙ sym (insert_key-belongs xs x i h)
  put_new (Err e) xs ys x i h is = tt

  pub put_ascending : {A E : Type 0} (r : Result A E) (xs ys : List K) (x : K) → IsStrictlySortedBy R xs → OnOk r (ys ≡ insert_key R xs x) → OnErr r (ys ≡ xs) → IsStrictlySortedBy R ys
  put_ascending (Ok a) xs ys x s is same = rw is (ascending-insert_key xs x s)
  put_ascending (Err e) xs ys x s is same = rw same s

  pub put_one_more : {A E : Type 0} (r : Result A E) (xs ys : List K) (x : K) → OnOk r (ys ≡ insert_key R xs x) → OnOk r ((y : K) → is_in R y ys ≡ (is_in R y xs || is_at (R y) x))
  put_one_more (Ok a) xs ys x is = λ y. rw is (is_in-insert_key xs x y)
  put_one_more (Err e) xs ys x is = tt

  -- ---- pairs

  module _ {V : Type 0} where
    pub find_stands : (ps : List (K × V)) (k : K) (i : ℕ) (d : K × V) → IsStrictlySortedBy R (keys_of ps) → StandsAt R (keys_of ps) k i → value_at R k ps ≡ Some (get_or ps i d).1
    unfolding IsStrictlySortedBy
    find_stands [] k i d s at = absurd at
    find_stands (q ∷ qs) k zero d s at = rw at refl
    find_stands (q ∷ qs) k (suc i) d s at = rw (below_level q.0 (keys_of qs) k i s.0 at) (find_stands qs k i d s.1 at)

    value_at-gap : (ps : List (K × V)) (k : K) (i : ℕ) → AllByRecursion (λ y. R y k ≡ Less) (take i (keys_of ps)) → AllByRecursion (λ y. R k y ≡ Less) (drop i (keys_of ps)) → value_at R k ps ≡ None
    value_at-gap [] k i low high = refl
    value_at-gap (q ∷ qs) k zero low high = rw high.0 (value_at-gap qs k 0 tt high.1)
    value_at-gap (q ∷ qs) k (suc i) low high = rw (turned k q.0 low.0) (value_at-gap qs k i low.1 high)

    pub value_at-belongs : (ps : List (K × V)) (k : K) (i : ℕ) → BelongsAt R (keys_of ps) k i → value_at R k ps ≡ None
    value_at-belongs ps k i h = value_at-gap ps k i (recursion_from_All _ (take i (keys_of ps)) h.above) (recursion_from_All _ (drop i (keys_of ps)) h.below)

    pub insert_entry-stands : (ps : List (K × V)) (k : K) (v : V) (i : ℕ) (p : K × V) → IsStrictlySortedBy R (keys_of ps) → StandsAt R (keys_of ps) k i → slice_get ps i ≡ Some p → insert_entry R ps k v ≡ take i ps ++ (p.0, v) ∷ drop (i + 1) ps
    unfolding IsStrictlySortedBy
    insert_entry-stands [] k v i p s at is = absurd at
    insert_entry-stands (q ∷ qs) k v zero p s at is = rw at (cc)
    insert_entry-stands (q ∷ qs) k v (suc i) p s at is =
        let next : suc i + 1 ≡ suc (i + 1) = omega arith in
        rw (next, below_level q.0 (keys_of qs) k i s.0 at) (ap (λ l. q ∷ l) (insert_entry-stands qs k v i p s.1 at is))

    insert_entry-gap : (ps : List (K × V)) (k : K) (v : V) (i : ℕ) → AllByRecursion (λ y. R y k ≡ Less) (take i (keys_of ps)) → AllByRecursion (λ y. R k y ≡ Less) (drop i (keys_of ps)) → insert_entry R ps k v ≡ insert ps i (k, v)
    insert_entry-gap [] k v zero low high = refl
    insert_entry-gap [] k v (suc i) low high = refl
    insert_entry-gap (q ∷ qs) k v zero low high = rw high.0 refl
    insert_entry-gap (q ∷ qs) k v (suc i) low high = rw (turned k q.0 low.0) (ap (λ l. q ∷ l) (insert_entry-gap qs k v i low.1 high))

    pub insert_entry-belongs : (ps : List (K × V)) (k : K) (v : V) (i : ℕ) → BelongsAt R (keys_of ps) k i → insert_entry R ps k v ≡ insert ps i (k, v)
    insert_entry-belongs ps k v i h = insert_entry-gap ps k v i (recursion_from_All _ (take i (keys_of ps)) h.above) (recursion_from_All _ (drop i (keys_of ps)) h.below)

    -- the keys afterwards are those of the members with one more
    keys-insert_entry : (ps : List (K × V)) (k : K) (v : V) → keys_of (insert_entry R ps k v) ≡ insert_key R (keys_of ps) k
    keys-insert_entry [] k v = refl
    keys-insert_entry (q ∷ qs) k v = at (R k q.0) (keys-insert_entry qs k v) where
      at : (r : Ordering) → keys_of (insert_entry R qs k v) ≡ insert_key R (keys_of qs) k
          → keys_of (match_ordering r ((k, v) ∷ q ∷ qs) ((q.0, v) ∷ qs) (q ∷ insert_entry R qs k v)) ≡ match_ordering r (k ∷ q.0 ∷ keys_of qs) (q.0 ∷ keys_of qs) (q.0 ∷ insert_key R (keys_of qs) k)
      at Less h = refl
      at Equal h = refl
      at Greater h = ap (λ l. q.0 ∷ l) h

    pub ascending-insert_entry : (ps : List (K × V)) (k : K) (v : V) → IsStrictlySortedBy R (keys_of ps) → IsStrictlySortedBy R (keys_of (insert_entry R ps k v))
    ascending-insert_entry ps k v s = rw (keys-insert_entry ps k v) (ascending-insert_key (keys_of ps) k s)

    here_at : (r : Ordering) (q : K × V) (qs : List (K × V)) (k : K) (v : V) → R k q.0 ≡ r → value_at R k (insert_entry R qs k v) ≡ Some v
        → value_at R k (match_ordering r ((k, v) ∷ q ∷ qs) ((q.0, v) ∷ qs) (q ∷ insert_entry R qs k v)) ≡ Some v
    here_at Less q qs k v e h = rw (tied_itself o k) refl
    here_at Equal q qs k v e h = rw e refl
    here_at Greater q qs k v e h = rw e h

    -- the value is at its key
    pub value_at-insert_entry : (ps : List (K × V)) (k : K) (v : V) → value_at R k (insert_entry R ps k v) ≡ Some v
    value_at-insert_entry [] k v = rw (tied_itself o k) refl
    value_at-insert_entry (q ∷ qs) k v = here_at (R k q.0) q qs k v refl (value_at-insert_entry qs k v)

    others_at : (r : Ordering) (q : K × V) (qs : List (K × V)) (k : K) (v : V) (x : K) → R k q.0 ≡ r → is_at (R x) k ≡ false → value_at R x (insert_entry R qs k v) ≡ value_at R x qs
        → value_at R x (match_ordering r ((k, v) ∷ q ∷ qs) ((q.0, v) ∷ qs) (q ∷ insert_entry R qs k v)) ≡ value_at R x (q ∷ qs)
    others_at Less q qs k v x e apart h = rw apart refl
    others_at Equal q qs k v x e apart h = rw (sym (ap is_eq (alike_right o k q.0 x e)) ∙ apart) refl
    others_at Greater q qs k v x e apart h = rw h refl

    -- what is at another key stays
    pub value_at-insert_entry_other : (ps : List (K × V)) (k : K) (v : V) (x : K) → is_at (R x) k ≡ false → value_at R x (insert_entry R ps k v) ≡ value_at R x ps
    value_at-insert_entry_other [] k v x apart = rw apart refl
    value_at-insert_entry_other (q ∷ qs) k v x apart = others_at (R k q.0) q qs k v x refl apart (value_at-insert_entry_other qs k v x apart)

    -- ---- the clauses of `put`

    pair_at : (ps : List (K × V)) (k : K) (i : ℕ) → StandsAt R (keys_of ps) k i → (p : K × V) × (slice_get ps i ≡ Some p)
    pair_at [] k i at = absurd at
    pair_at (q ∷ qs) k zero at = (q, refl)
    pair_at (q ∷ qs) k (suc i) at = pair_at qs k i at

    pub put_stands : (ps qs : List (K × V)) (k : K) (v : V) (i : ℕ) → IsStrictlySortedBy R (keys_of ps) → StandsAt R (keys_of ps) k i → IfSome (slice_get ps i) (λ p. qs ≡ take i ps ++ (p.0, v) ∷ drop (i + 1) ps) → qs ≡ insert_entry R ps k v
    put_stands ps qs k v i s at is =
        let found = pair_at ps k i at in
        subst (λ (r : Option (K × V)). IfSome r (λ p. qs ≡ take i ps ++ (p.0, v) ∷ drop (i + 1) ps)) found.1 is ∙ sym (insert_entry-stands ps k v i found.0 s at found.1)

    pub put_belongs : {A E : Type 0} (r : Result A E) (ps qs : List (K × V)) (k : K) (v : V) (i : ℕ) → BelongsAt R (keys_of ps) k i → OnOk r (qs ≡ insert ps i (k, v)) → OnOk r (qs ≡ insert_entry R ps k v)
    put_belongs (Ok a) ps qs k v i h is = is ∙ sym (insert_entry-belongs ps k v i h)
    put_belongs (Err e) ps qs k v i h is = tt

    pub put_keys : {A E : Type 0} (r : Result A E) (ps qs : List (K × V)) (k : K) (v : V) → IsStrictlySortedBy R (keys_of ps) → OnOk r (qs ≡ insert_entry R ps k v) → OnErr r (qs ≡ ps) → IsStrictlySortedBy R (keys_of qs)
    put_keys (Ok a) ps qs k v s is same = rw is (ascending-insert_entry ps k v s)
    put_keys (Err e) ps qs k v s is same = rw same s

    pub put_here : {A E : Type 0} (r : Result A E) (ps qs : List (K × V)) (k : K) (v : V) → OnOk r (qs ≡ insert_entry R ps k v) → OnOk r (value_at R k qs ≡ Some v)
    put_here (Ok a) ps qs k v is = rw is (value_at-insert_entry ps k v)
    put_here (Err e) ps qs k v is = tt

    pub put_others : {A E : Type 0} (r : Result A E) (ps qs : List (K × V)) (k : K) (v : V) → OnOk r (qs ≡ insert_entry R ps k v) → OnOk r ((x : K) → is_at (R x) k ≡ false → value_at R x qs ≡ value_at R x ps)
    put_others (Ok a) ps qs k v is = λ x apart. rw is (value_at-insert_entry_other ps k v x apart)
    put_others (Err e) ps qs k v is = tt
