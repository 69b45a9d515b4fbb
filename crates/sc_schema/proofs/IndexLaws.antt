-- Names put in their order, and the types above those of actions.
use Rattle.std.proofs.Common.{append-nil, Bool, true, false, Option, cond, ◌||◌, None, unwrap_or, ◌≡◌, ◌↔◌, ◌⊎◌, ℕ, ◌<◌, ◌≤◌, zero, suc, List, [], ◌∷◌, ◌++◌, map, length, insert, Ok, Err, Some, refl, sym, ap, subst, ◌∙◌, inl, inr, arith, Contains}
use Rattle.std.specs.List.{AllByRecursion, AllWithin, slice_get, fold, list_any}
use Rattle.std.specs.List.Sorted.{IsStrictlySortedBy, IsSearchInRange, IsBinarySearchResult}
use Rattle.std.specs.BTreeMap.{is_at}
use Rattle.std.specs.Map.{lookup}
use Rattle.std.specs.Str.{bytes_eq}
use Rattle.std.specs.Ordering.{match_ordering, is_eq}
use Rattle.std.specs.declared.cmp.Ordering.{Ordering}
use Rattle.std.specs.declared.cmp.Ordering.TheVariants.{Less, Equal, Greater}
use Rattle.std.proofs.lemmas.Cmp.{nat_list_cmp_total}
use Rattle.std.proofs.lemmas.List.Sorted.{searchable_from_sorted}
use Rattle.std.proofs.lemmas.Map.Keys.{sorted_head, sorted_tail}
use Rattle.std.proofs.lemmas.Map.Lookups.{exact_bytes}
use Rattle.sc_names.specs.Uids.{text_cmp}
use Rattle.sc_schema.specs.declared.declarations.Action.{Action}
use Rattle.sc_names.specs.declared.uid.Uid.{Uid}
use Rattle.sc_schema.specs.Declarations.{with_name, in_order, types_above}
use Rattle.sc_schema.specs.Indices.{types_above_actions, Above, IsAbove}
use Rattle.std.proofs.lemmas.List.Folds.{list_any-append}
use Rattle.std.proofs.lemmas.Grind.{flat_map-append}
use Rattle.std.proofs.lemmas.List.Sums.{fold-append}
use Rattle.std.proofs.lemmas.Map.Text.{is_eq-slice_cmp}
use Rattle.std.proofs.lemmas.Slice.Eq.{bytes_eq-Decides}
use Rattle.sc_lists.proofs.ListLaws.{contains_nothing, contains_split, contains_rest, contains_first}
use Rattle.sc_lists.proofs.TextLaws.{bytes_eq_swap}
use Rattle.sc_schema.specs.Lawful.{AreAscending}
use Rattle.sc_schema.proofs.OrderLaws.{level_itself, above_from_below, below_from_above, sorted_from_strict}
use Rattle.sc_schema.proofs.PlaceLaws.{all_at, searched}
use Rattle.sc_schema.proofs.LawfulLaws.{no_names_ascend}

abbrev Names : Type 0
Names = List (List ℕ)

with_less : (r : Ordering) (a b c : Names) → r ≡ Less → match_ordering r a b c ≡ a
with_less r a b c h = rw h refl

with_level : (r : Ordering) (a b c : Names) → r ≡ Equal → match_ordering r a b c ≡ b
with_level r a b c h = rw h refl

with_greater : (r : Ordering) (a b c : Names) → r ≡ Greater → match_ordering r a b c ≡ c
with_greater r a b c h = rw h refl

with_name-below : (x : List ℕ) (xs : Names) (n : List ℕ) → text_cmp n x ≡ Less → with_name (x ∷ xs) n ≡ n ∷ x ∷ xs
unfolding with_name
with_name-below x xs n h = with_less _ _ _ _ h

with_name-here : (x : List ℕ) (xs : Names) (n : List ℕ) → n ≡ x → with_name (x ∷ xs) n ≡ x ∷ xs
unfolding with_name
with_name-here x xs n h = with_level _ _ _ _ (subst (λ y. text_cmp n y ≡ Equal) h (level_itself nat_list_cmp_total n))

with_name-above : (x : List ℕ) (xs : Names) (n : List ℕ) → text_cmp x n ≡ Less → with_name (x ∷ xs) n ≡ x ∷ with_name xs n
unfolding with_name
with_name-above x xs n h = with_greater _ _ _ _ (above_from_below nat_list_cmp_total x n h)

-- a name that is there stays where it is
pub with_name-there : (xs : Names) (n : List ℕ) (i : ℕ) → AreAscending xs → slice_get xs i ≡ Some n → xs ≡ with_name xs n
with_name-there [] n i a e = absurd cc
with_name-there (x ∷ xs) n zero a e = sym (with_name-here x xs n cc)
with_name-there (x ∷ xs) n (suc i) a e =
    let less : text_cmp x n ≡ Less = all_at (λ y. text_cmp x y ≡ Less) xs i n (sorted_head text_cmp x xs a) e in
    ap (λ (ys : Names). x ∷ ys) (with_name-there xs n i (sorted_tail text_cmp x xs a) e) ∙ sym (with_name-above x xs n less)

before_rest : (x : List ℕ) (xs : Names) (n : List ℕ) (i : ℕ) → AllWithin (λ y. text_cmp y n ≡ Less) (x ∷ xs) 0 (suc i) → AllWithin (λ y. text_cmp y n ≡ Less) xs 0 i
before_rest x xs n i h k d low high = h (suc k) d (omega arith) (omega arith)

after_rest : (x : List ℕ) (xs : Names) (n : List ℕ) (i : ℕ) → AllWithin (λ y. text_cmp y n ≡ Greater) (x ∷ xs) (suc i) (length (x ∷ xs)) → AllWithin (λ y. text_cmp y n ≡ Greater) xs i (length xs)
after_rest x xs n i h k d low high = h (suc k) d (omega arith) (omega arith)

-- a new name is put between those below it and those above it
put_between : (xs : Names) (n : List ℕ) (i : ℕ) → i ≤ length xs → AllWithin (λ y. text_cmp y n ≡ Less) xs 0 i → AllWithin (λ y. text_cmp y n ≡ Greater) xs i (length xs) → insert xs i n ≡ with_name xs n
unfolding with_name
put_between [] n zero w b a = refl
put_between [] n (suc i) w b a = absurd (omega arith)
put_between (x ∷ xs) n zero w b a = sym (with_name-below x xs n (below_from_above nat_list_cmp_total x n (a 0 x (omega arith) (omega arith))))
put_between (x ∷ xs) n (suc i) w b a =
    ap (λ (ys : Names). x ∷ ys) (put_between xs n i (omega arith) (before_rest x xs n i b) (after_rest x xs n i a))
    ∙ sym (with_name-above x xs n (b 0 x (omega arith) (omega arith)))

pub with_name-new : (xs : Names) (n : List ℕ) (i : ℕ) → AreAscending xs → i ≤ length xs → IsBinarySearchResult (λ y. text_cmp y n) xs (Err i) → insert xs i n ≡ with_name xs n
with_name-new xs n i a within search =
    let parts = search (searchable_from_sorted nat_list_cmp_total (λ (y : List ℕ). y) xs n (sorted_from_strict nat_list_cmp_total xs a)) in
    put_between xs n i within parts.0 parts.1

-- the place of a name that was found
pub places : (xs ys : Names) (n : List ℕ) (i : ℕ) → ys ≡ xs → i < length ys → IsBinarySearchResult (λ y. text_cmp y n) ys (Ok i) → slice_get xs i ≡ Some n
places xs ys n i is within search = subst (λ (zs : Names). slice_get zs i ≡ Some n) is (searched exact_bytes ys n i within search)

-- a name that wasn't found is put at the place that was found for it
pub put_is : (xs ys : Names) (n m : List ℕ) (i : ℕ) → ys ≡ xs → m ≡ n → AreAscending xs → IsSearchInRange (Err i) (length ys) → IsBinarySearchResult (λ y. text_cmp y n) ys (Err i) → insert xs i m ≡ with_name xs n
put_is xs ys n m i is copy a within search =
    ap (insert xs i) copy
    ∙ with_name-new xs n i a (subst (λ (zs : Names). i ≤ length zs) is within) (subst (λ (zs : Names). IsBinarySearchResult (λ y. text_cmp y n) zs (Err i)) is search)

-- ---- names in order ascend, and are the names given

ascending-cons : (x : List ℕ) (xs : Names) → AllByRecursion (λ y. text_cmp x y ≡ Less) xs → AreAscending xs → AreAscending (x ∷ xs)
unfolding IsStrictlySortedBy
ascending-cons x xs h k = (h, k)

below-all : (n x : List ℕ) (xs : Names) → text_cmp n x ≡ Less → AllByRecursion (λ y. text_cmp x y ≡ Less) xs → AllByRecursion (λ y. text_cmp n y ≡ Less) xs
below-all n x [] h k = tt
below-all n x (y ∷ ys) h k = (nat_list_cmp_total.trans n x y h k.0, below-all n x ys h k.1)

by_order : (P : Names → Type 0) (r : Ordering) (a b c : Names) → (r ≡ Less → P a) → (r ≡ Equal → P b) → (r ≡ Greater → P c) → P (match_ordering r a b c)
by_order P Less a b c f g h = f refl
by_order P Equal a b c f g h = g refl
by_order P Greater a b c f g h = h refl

below-with_name : (x : List ℕ) (xs : Names) (n : List ℕ) → text_cmp x n ≡ Less → AllByRecursion (λ y. text_cmp x y ≡ Less) xs → AllByRecursion (λ y. text_cmp x y ≡ Less) (with_name xs n)
unfolding with_name
below-with_name x [] n h k = (h, tt)
below-with_name x (y ∷ ys) n h k =
    by_order (AllByRecursion (λ z. text_cmp x z ≡ Less)) (text_cmp n y) _ _ _ (λ _. (h, k)) (λ _. k) (λ _. (k.0, below-with_name x ys n h k.1))

pub ascending-with_name : (xs : Names) (n : List ℕ) → AreAscending xs → AreAscending (with_name xs n)
unfolding with_name
ascending-with_name [] n a = ascending-cons n [] tt a
ascending-with_name (x ∷ xs) n a =
    by_order AreAscending (text_cmp n x) _ _ _
    (λ less. ascending-cons n (x ∷ xs) (less, below-all n x xs less (sorted_head text_cmp x xs a)) a) (λ _. a)
    (λ greater. ascending-cons x (with_name xs n) (below-with_name x xs n (below_from_above nat_list_cmp_total n x greater) (sorted_head text_cmp x xs a)) (ascending-with_name xs n (sorted_tail text_cmp x xs a)))

-- a name that is put once more is there
pub with_name-again : (xs : Names) (n : List ℕ) → with_name (with_name xs n) n ≡ with_name xs n
unfolding with_name
with_name-again [] n = with_name-here n [] n refl
with_name-again (x ∷ xs) n =
    by_order (λ ys. with_name ys n ≡ ys) (text_cmp n x) _ _ _
    (λ _. with_name-here n (x ∷ xs) n refl)
    (λ level. with_name-here x xs n (exact_bytes n x level))
    (λ greater. with_name-above x (with_name xs n) n (below_from_above nat_list_cmp_total n x greater) ∙ ap (λ (ys : Names). x ∷ ys) (with_name-again xs n))

ascending-fold : (xs ns : Names) → AreAscending xs → AreAscending (fold with_name xs ns)
ascending-fold xs [] a = a
ascending-fold xs (n ∷ ns) a = ascending-fold (with_name xs n) ns (ascending-with_name xs n a)

pub in_order_ascending : (ns : Names) → AreAscending (in_order ns)
in_order_ascending ns = ascending-fold [] ns no_names_ascend

-- what is put is there, and what was there still is
put_there : (xs : Names) (n : List ℕ) → Contains (with_name xs n) n
unfolding with_name
put_there [] n = contains_first n []
put_there (x ∷ xs) n =
    by_order (λ ys. Contains ys n) (text_cmp n x) _ _ _ (λ _. contains_first n (x ∷ xs))
    (λ level. subst (λ y. Contains (y ∷ xs) n) (exact_bytes n x level) (contains_first n xs))
    (λ _. contains_rest x (with_name xs n) n (put_there xs n))

was_there : (xs : Names) (n y : List ℕ) → Contains xs y → Contains (with_name xs n) y
unfolding with_name
was_there [] n y h = absurd (contains_nothing y h)
was_there (x ∷ xs) n y h =
    by_order (λ ys. Contains ys y) (text_cmp n x) _ _ _ (λ _. contains_rest n (x ∷ xs) y h) (λ _. h)
    (λ _. elim (contains_split x xs y h) [ inl is ↦ subst (λ z. Contains (z ∷ with_name xs n) y) (sym is) (contains_first y (with_name xs n)) | inr later ↦ contains_rest x (with_name xs n) y (was_there xs n y later) ])

-- and nothing else is
with_one_more : (x : List ℕ) (xs : Names) (n y : List ℕ) → (n ≡ y) ⊎ Contains xs y → (n ≡ y) ⊎ Contains (x ∷ xs) y
with_one_more x xs n y (inl is) = inl is
with_one_more x xs n y (inr has) = inr (contains_rest x xs y has)

first_or_later : (x : List ℕ) (xs : Names) (n y : List ℕ) → (Contains (with_name xs n) y → (n ≡ y) ⊎ Contains xs y) → (x ≡ y) ⊎ Contains (with_name xs n) y → (n ≡ y) ⊎ Contains (x ∷ xs) y
first_or_later x xs n y f (inl is) = inr (subst (λ z. Contains (z ∷ xs) y) (sym is) (contains_first y xs))
first_or_later x xs n y f (inr has) = with_one_more x xs n y (f has)

only_put : (xs : Names) (n y : List ℕ) → Contains (with_name xs n) y → (n ≡ y) ⊎ Contains xs y
unfolding with_name
only_put [] n y h = contains_split n [] y h
only_put (x ∷ xs) n y h =
    by_order (λ ys. Contains ys y → (n ≡ y) ⊎ Contains (x ∷ xs) y) (text_cmp n x) _ _ _ (λ _ k. contains_split n (x ∷ xs) y k) (λ _ k. inr k)
    (λ _ k. first_or_later x xs n y (only_put xs n y) (contains_split x (with_name xs n) y k)) h

fold-was_there : (xs ns : Names) (y : List ℕ) → Contains xs y → Contains (fold with_name xs ns) y
fold-was_there xs [] y h = h
fold-was_there xs (n ∷ ns) y h = fold-was_there (with_name xs n) ns y (was_there xs n y h)

fold-put : (xs ns : Names) (y : List ℕ) → Contains ns y → Contains (fold with_name xs ns) y
fold-put xs [] y h = absurd (contains_nothing y h)
fold-put xs (n ∷ ns) y h = elim (contains_split n ns y h) [
  | inl is ↦ fold-was_there (with_name xs n) ns y (subst (λ z. Contains (with_name xs n) z) is (put_there xs n))
  | inr later ↦ fold-put (with_name xs n) ns y later
]

fold-only : (xs ns : Names) (y : List ℕ) → Contains (fold with_name xs ns) y → Contains xs y ⊎ Contains ns y
fold-only xs [] y h = inl h
fold-only xs (n ∷ ns) y h = elim (fold-only (with_name xs n) ns y h) [
  | inl before ↦ elim (only_put xs n y before) [ inl is ↦ inr (subst (λ z. Contains (z ∷ ns) y) (sym is) (contains_first y ns)) | inr has ↦ inl has ]
  | inr later ↦ inr (contains_rest n ns y later)
]

pub in_order_members : (ns : Names) (y : List ℕ) → Contains (in_order ns) y ↔ Contains ns y
in_order_members ns y = (λ h. elim (fold-only [] ns y h) [ inl none ↦ absurd (contains_nothing y none) | inr has ↦ has ], λ h. fold-put [] ns y h)

-- ---- the types above those of actions

abbrev of_type : List ℕ → Action → Bool
of_type q a = bytes_eq q a.uid.type_name

abbrev pub above_one : Action → Names
above_one a = map (λ (u : Uid). u.type_name) a.ancestors

none_above : (xs : List Action) (q : List ℕ) → list_any (of_type q) xs ≡ false → types_above xs q ≡ []
none_above [] q h = refl
none_above (a ∷ xs) q h = step (of_type q a) (list_any (of_type q) xs) (types_above xs q) h (none_above xs q) where
  step : (b c : Bool) (later : Names) → (b || c) ≡ false → (c ≡ false → later ≡ []) → (cond b (above_one a) [] ++ later) ≡ []
  step true c later h k = absurd cc
  step false c later h k = k h

above_or_none : (xs : List Action) (q : List ℕ) → unwrap_or (types_above_actions xs q) [] ≡ in_order (types_above xs q)
above_or_none xs q = step (list_any (of_type q) xs) (types_above xs q) (none_above xs q) where
  step : (b : Bool) (ns : Names) → (b ≡ false → ns ≡ []) → unwrap_or (cond b (Some (in_order ns)) None) [] ≡ in_order ns
  step true ns h = refl
  step false ns h = ap in_order (sym (h refl))

-- one action more
types_above_actions-more : (xs : List Action) (a : Action) (q : List ℕ)
    → types_above_actions (xs ++ a ∷ []) q ≡ cond (of_type q a) (Some (fold with_name (unwrap_or (types_above_actions xs q) []) (above_one a))) (types_above_actions xs q)
types_above_actions-more xs a q =
    ap (λ b. cond b (Some (in_order (types_above (xs ++ a ∷ []) q))) None) (list_any-append (of_type q) xs (a ∷ []))
    ∙ (ap (λ ns. cond (list_any (of_type q) xs || (of_type q a || false)) (Some (in_order ns)) None) (flat_map-append (λ (x : Action). cond (of_type q x) (above_one x) []) xs (a ∷ []))
    ∙ (ap (λ ns. cond (list_any (of_type q) xs || (of_type q a || false)) (Some ns) None) (fold-append with_name [] (types_above xs q) (cond (of_type q a) (above_one a) [] ++ []))
    ∙ step (list_any (of_type q) xs) (of_type q a) (in_order (types_above xs q)) (above_or_none xs q))) where
      step : (b c : Bool) (ns : Names) → unwrap_or (cond b (Some ns) None) [] ≡ ns
          → cond (b || (c || false)) (Some (fold with_name ns (cond c (above_one a) [] ++ []))) None ≡ cond c (Some (fold with_name (unwrap_or (cond b (Some ns) None) []) (above_one a))) (cond b (Some ns) None)
      step true true ns e = ap (λ ms. Some (fold with_name ns ms)) (append-nil (above_one a))
      step true false ns e = refl
      step false true ns e = ap (λ ms. Some (fold with_name ns ms)) (append-nil (above_one a)) ∙ ap (λ ms. Some (fold with_name ms (above_one a))) (sym e)
      step false false ns e = refl

-- the same text either way round
one_text : (x y : List ℕ) → is_eq (text_cmp x y) ≡ bytes_eq y x
one_text x y = is_eq-slice_cmp x y ∙ bytes_eq_swap x y

-- the map with what it takes for one action more
pub IsAbove-more : (xs : List Action) (a : Action) (before after : Above) (names : Names)
    → IsAbove xs before → names ≡ fold with_name (unwrap_or (lookup (is_at (text_cmp a.uid.type_name)) before) []) (above_one a)
    → ((q : List ℕ) → lookup (is_at (text_cmp q)) after ≡ cond (is_at (text_cmp a.uid.type_name) q) (Some names) (lookup (is_at (text_cmp q)) before))
    → IsAbove (xs ++ a ∷ []) after
IsAbove-more xs a before after names was is put q =
    put q ∙ (ap (λ b. cond b (Some names) (lookup (is_at (text_cmp q)) before)) (one_text a.uid.type_name q)
    ∙ (ap (cond (of_type q a) (Some names)) (was q) ∙ (here (of_type q a) ((bytes_eq-Decides q a.uid.type_name).0) ∙ sym (types_above_actions-more xs a q)))) where
      here : (b : Bool) → (b ≡ true → q ≡ a.uid.type_name)
          → cond b (Some names) (types_above_actions xs q) ≡ cond b (Some (fold with_name (unwrap_or (types_above_actions xs q) []) (above_one a))) (types_above_actions xs q)
      here true e = ap Some (is ∙ ap (λ o. fold with_name (unwrap_or o []) (above_one a)) (ap (λ n. lookup (is_at (text_cmp n)) before) (sym (e refl)) ∙ was q))
      here false e = refl

-- what is found for a type ascends
pub above-ascending : (xs : List Action) (above : Above) (n : List ℕ) → IsAbove xs above → AreAscending (unwrap_or (lookup (is_at (text_cmp n)) above) [])
above-ascending xs above n h =
    subst (λ o. AreAscending (unwrap_or o [])) (sym (h n)) (subst AreAscending (sym (above_or_none xs n)) (in_order_ascending (types_above xs n)))

-- no action, nothing above
pub IsAbove-none : IsAbove [] []
IsAbove-none q = refl

-- what was taken out and put again
pub put_again : {X : Type 0} (b : Bool) (x : X) (o : Option X) → cond b (Some x) (cond b None o) ≡ cond b (Some x) o
put_again true x o = refl
put_again false x o = refl
