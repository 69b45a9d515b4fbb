-- What pairs make: one record, or one least repeated key, and never both.
use Rattle.std.proofs.Common.{◌≡◌, ◌≢◌, ℕ, ◌+◌, ◌≤◌, suc, List, [], ◌∷◌, Bool, true, false, cond, Option, Some, None, count_by, refl, sym, ap, subst, ◌∙◌, arith, zero-add}
use Rattle.std.specs.List.{AllByRecursion}
use Rattle.std.specs.List.Sorted.{IsSorted, IsStrictlySortedBy, IsPermutation}
use Rattle.std.specs.Map.{keys_of}
use Rattle.std.specs.Str.{bytes_eq}
use Rattle.std.specs.declared.cmp.Ordering.{Ordering}
use Rattle.std.specs.declared.cmp.Ordering.TheVariants.{Less, Equal, Greater}
use Rattle.std.specs.Ordering.{is_lt, is_gt, ordering_then, ordering_reverse}
use Rattle.std.specs.Cmp.{IsTotalOrder}
use Rattle.std.proofs.lemmas.Cmp.{tied_itself, on_total, then_total, upto}
use Rattle.std.proofs.lemmas.List.Sums.{sum_by-cons}
use Rattle.std.proofs.lemmas.List.Sorted.{IsPermutation-map, IsPermutation-sym, sum_by-IsPermutation, Contains-permutation}
use Rattle.std.proofs.lemmas.Map.Lookups.{CmpEqualImpliesEq, exact_bytes, exact_pairs}
use Rattle.std.proofs.lemmas.Slice.Eq.{bytes_eq-Decides}
use Rattle.sc_names.proofs.UidLaws.{text_total}
use Rattle.sc_lists.proofs.TextLaws.{bytes_eq_true}
use Rattle.sc_lists.proofs.OrderingLaws.{is_gt_false}
use Rattle.sc_names.specs.Uids.{text_cmp}
use Rattle.sc_values.specs.declared.value.Value.{Value}
use Rattle.sc_values.specs.Order.{value_cmp, field_cmp}
use Rattle.sc_values.specs.Records.{Fields, IsRecOf, IsRepeated, IsDuplicateKey}
use Rattle.sc_values.specs.Repeats.{repeated_after, first_repeated}
use Rattle.sc_values.proofs.AscendingLaws.{one_list}
use Rattle.sc_values.proofs.OrderLaws.{value_cmp_total, value_cmp_exact}

-- ---- texts in order

AtMost : List ℕ → List ℕ → Type 0
AtMost k j = is_gt (text_cmp k j) ≡ false

at_most_itself : (k : List ℕ) → AtMost k k
unfolding AtMost
at_most_itself k = ap is_gt (tied_itself text_total k)

at_most_trans : (k j i : List ℕ) → AtMost k j → AtMost j i → AtMost k i
unfolding AtMost
at_most_trans k j i = upto text_total k j i

at_most_is : (k j : List ℕ) → AtMost k j → text_cmp k j ≢ Greater
unfolding AtMost
at_most_is k j h = is_gt_false (text_cmp k j) h

reversed : (o : Ordering) → is_gt (ordering_reverse o) ≡ is_lt o
reversed Less = refl
reversed Equal = refl
reversed Greater = refl

turned : (k j : List ℕ) → is_lt (text_cmp j k) ≡ false → AtMost k j
unfolding AtMost
turned k j h = ap is_gt (text_total.antisymm k j) ∙ reversed (text_cmp j k) ∙ h

less_unless : (o : Ordering) → is_gt o ≡ false → o ≢ Equal → o ≡ Less
less_unless Less h n = refl
less_unless Equal h n = absurd (n refl)
less_unless Greater h n = cc

below_unless : (k j : List ℕ) → AtMost k j → bytes_eq j k ≡ false → text_cmp k j ≡ Less
unfolding AtMost
below_unless k j h differ = less_unless (text_cmp k j) h (λ e.
    let same : j ≡ k = sym (exact_bytes k j e) in
    let told : bytes_eq j k ≡ true = (bytes_eq-Decides j k).1 same in
    cc)

below_at_most : (k j : List ℕ) → text_cmp k j ≡ Less → AtMost j k → ⊥
unfolding AtMost
below_at_most k j h most =
    let above : text_cmp j k ≡ Greater = text_total.antisymm j k ∙ ap ordering_reverse h in
    let told : is_gt (text_cmp j k) ≡ true = ap is_gt above in
    cc

-- ---- how often a key stands in a list

abbrev count : List ℕ → List (List ℕ) → ℕ
count k keys = count_by (bytes_eq k) keys

count-cons : (k j : List ℕ) (keys : List (List ℕ)) → count k (j ∷ keys) ≡ cond (bytes_eq k j) 1 0 + count k keys
count-cons k j keys = sum_by-cons (λ x. cond (bytes_eq k x) 1 0) j keys

counted : (k j : List ℕ) (keys : List (List ℕ)) → bytes_eq k j ≡ true → count k (j ∷ keys) ≡ 1 + count k keys
counted k j keys e = count-cons k j keys ∙ ap (λ (b : Bool). cond b 1 0 + count k keys) e

passed : (k j : List ℕ) (keys : List (List ℕ)) → bytes_eq k j ≡ false → count k (j ∷ keys) ≡ count k keys
passed k j keys e = count-cons k j keys ∙ ap (λ (b : Bool). cond b 1 0 + count k keys) e ∙ zero-add (count k keys)

-- what holds of each key holds of one that stands there
occurs_at : (P : List ℕ → Type 0) (k j : List ℕ) (keys : List (List ℕ)) (b : Bool) → bytes_eq k j ≡ b → 1 ≤ count k (j ∷ keys) → P j → (1 ≤ count k keys → P k) → P k
occurs_at P k j keys true e h here later = subst P (sym (bytes_eq_true k j e)) here
occurs_at P k j keys false e h here later = later (omega (arith, passed k j keys e))

occurs : (P : List ℕ → Type 0) (k : List ℕ) (keys : List (List ℕ)) → 1 ≤ count k keys → AllByRecursion P keys → P k
occurs P k [] h all = absurd (omega arith)
occurs P k (j ∷ keys) h all = occurs_at P k j keys (bytes_eq k j) refl h all.0 (λ more. occurs P k keys more all.1)

-- ---- keys that don't fall

RisesFrom : List ℕ → List (List ℕ) → Type 0
RisesFrom k [] = Unit {0}
RisesFrom k (j ∷ keys) = AtMost k j × RisesFrom j keys

lower : (k j : List ℕ) (keys : List (List ℕ)) → AtMost k j → AllByRecursion (AtMost j) keys → AllByRecursion (AtMost k) keys
lower k j [] h all = tt
lower k j (i ∷ keys) h all = (at_most_trans k j i h all.0, lower k j keys h all.1)

above : (k : List ℕ) (keys : List (List ℕ)) → RisesFrom k keys → AllByRecursion (AtMost k) keys
unfolding RisesFrom
above k [] h = tt
above k (j ∷ keys) h = (h.0, lower k j keys h.0 (above j keys h.1))

not_less : (o p : Ordering) → is_lt (ordering_then o p) ≡ false → is_lt o ≡ false
not_less Less p h = h
not_less Equal p h = refl
not_less Greater p h = refl

sorted_rest : (f : List ℕ × Value) (fs : Fields) → IsSorted field_cmp (f ∷ fs) → IsSorted field_cmp fs
sorted_rest f fs h k d low high =
    let next : suc k + 1 ≡ suc (k + 1) = omega arith in
    let later = h (suc k) d (omega arith) (omega arith) in
    rw next at later

rises : (f : List ℕ × Value) (fs : Fields) → IsSorted field_cmp (f ∷ fs) → RisesFrom f.0 (keys_of fs)
unfolding RisesFrom
rises f [] h = tt
rises f (g ∷ fs) h = (
  turned f.0 g.0 (not_less (text_cmp g.0 f.0) (value_cmp g.1 f.1) (h 0 f (omega arith) (omega arith))),
  rises g fs (sorted_rest f (g ∷ fs) h),
)

-- ---- with no key twice in a row they ascend

below_all : (k j : List ℕ) (keys : List (List ℕ)) → text_cmp k j ≡ Less → AllByRecursion (λ y. text_cmp j y ≡ Less) keys → AllByRecursion (λ y. text_cmp k y ≡ Less) keys
below_all k j [] h all = tt
below_all k j (i ∷ keys) h all = (text_total.trans k j i h all.0, below_all k j keys h all.1)

ascends_at : (k j : List ℕ) (keys : List (List ℕ)) (b : Bool) → bytes_eq j k ≡ b → AtMost k j → repeated_after k (j ∷ keys) ≡ None
    → (repeated_after j keys ≡ None → IsStrictlySortedBy text_cmp (j ∷ keys)) → IsStrictlySortedBy text_cmp (k ∷ j ∷ keys)
unfolding IsStrictlySortedBy
ascends_at k j keys true e h none later = let told : ◌≡◌ {A = Option (List ℕ)} (Some k) None = rw e at none in cc
ascends_at k j keys false e h none later =
    let rest = later (rw e at none) in
    let less : text_cmp k j ≡ Less = below_unless k j h e in
    ((less, below_all k j keys less rest.0), rest)

ascends : (k : List ℕ) (keys : List (List ℕ)) → RisesFrom k keys → repeated_after k keys ≡ None → IsStrictlySortedBy text_cmp (k ∷ keys)
unfolding IsStrictlySortedBy RisesFrom
ascends k [] h none = (tt, tt)
ascends k (j ∷ keys) h none = ascends_at k j keys (bytes_eq j k) refl h.0 none (λ more. ascends j keys h.1 more)

-- ---- a key twice in a row is the least that is there twice

record IsLeast (keys : List (List ℕ)) (key : List ℕ) : Type 0 where
  repeated : 2 ≤ count key keys
  least : (k : List ℕ) → 2 ≤ count k keys → AtMost key k

-- the first two are one
least_here : (k j : List ℕ) (keys : List (List ℕ)) → bytes_eq j k ≡ true → AllByRecursion (AtMost k) (j ∷ keys) → IsLeast (k ∷ j ∷ keys) k
least_here k j keys e all =
    let same : j ≡ k = bytes_eq_true j k e in
    let first : bytes_eq k k ≡ true = (bytes_eq-Decides k k).1 refl in
    let second : bytes_eq k j ≡ true = (bytes_eq-Decides k j).1 (sym same) in
    record {
      repeated = omega (arith, counted k k (j ∷ keys) first, counted k j keys second);
      least = λ m twice. occurs (AtMost k) m (k ∷ j ∷ keys) (omega arith) (at_most_itself k, all);
    }

least_past_at : (k j m key : List ℕ) (keys : List (List ℕ)) (b : Bool) → bytes_eq m k ≡ b → text_cmp k j ≡ Less → AllByRecursion (AtMost j) (j ∷ keys) → IsLeast (j ∷ keys) key → 2 ≤ count m (k ∷ j ∷ keys) → AtMost key m
least_past_at k j m key keys true e below all later twice =
    let same : m ≡ k = bytes_eq_true m k e in
    let once : 1 ≤ count m (j ∷ keys) = omega (arith, counted m k (j ∷ keys) e) in
    absurd (below_at_most k j below (subst (AtMost j) same (occurs (AtMost j) m (j ∷ keys) once all)))
least_past_at k j m key keys false e below all later twice = later.least m (omega (arith, passed m k (j ∷ keys) e))

least_past : (k j key : List ℕ) (keys : List (List ℕ)) → text_cmp k j ≡ Less → AllByRecursion (AtMost j) (j ∷ keys) → IsLeast (j ∷ keys) key → IsLeast (k ∷ j ∷ keys) key
least_past k j key keys below all later = record {
  repeated = omega (arith, count-cons key k (j ∷ keys), later.repeated);
  least = λ m twice. least_past_at k j m key keys (bytes_eq m k) refl below all later twice;
}

repeats_at : (k j key : List ℕ) (keys : List (List ℕ)) (b : Bool) → bytes_eq j k ≡ b → RisesFrom k (j ∷ keys) → repeated_after k (j ∷ keys) ≡ Some key → (repeated_after j keys ≡ Some key → IsLeast (j ∷ keys) key) → IsLeast (k ∷ j ∷ keys) key
unfolding RisesFrom
repeats_at k j key keys true e h some later =
    let is : k ≡ key = (let told : ◌≡◌ {A = Option (List ℕ)} (Some k) (Some key) = rw e at some in cc) in
    subst (IsLeast (k ∷ j ∷ keys)) is (least_here k j keys e (above k (j ∷ keys) h))
repeats_at k j key keys false e h some later = least_past k j key keys (below_unless k j h.0 e) (at_most_itself j, above j keys h.1) (later (rw e at some))

repeats : (k key : List ℕ) (keys : List (List ℕ)) → RisesFrom k keys → repeated_after k keys ≡ Some key → IsLeast (k ∷ keys) key
unfolding RisesFrom
repeats k key [] h some = cc
repeats k key (j ∷ keys) h some = repeats_at k j key keys (bytes_eq j k) refl h some (λ more. repeats j key keys h.1 more)

-- ---- sorted pairs

ascending_sorted : (fs : Fields) → IsSorted field_cmp fs → first_repeated (keys_of fs) ≡ None → IsStrictlySortedBy text_cmp (keys_of fs)
unfolding IsStrictlySortedBy
ascending_sorted [] h none = tt
ascending_sorted (f ∷ fs) h none = ascends f.0 (keys_of fs) (rises f fs h) none

least_sorted : (fs : Fields) (key : List ℕ) → IsSorted field_cmp fs → first_repeated (keys_of fs) ≡ Some key → IsLeast (keys_of fs) key
least_sorted [] key h some = cc
least_sorted (f ∷ fs) key h some = repeats f.0 key (keys_of fs) (rises f fs h) some

-- a key stands as often in another order
count_moved : (xs ys : Fields) (k : List ℕ) → IsPermutation xs ys → count k (keys_of ys) ≡ count k (keys_of xs)
count_moved xs ys k moved = sum_by-IsPermutation (λ x. cond (bytes_eq k x) 1 0) (keys_of xs) (keys_of ys) (IsPermutation-map (λ (f : List ℕ × Value). f.0) xs ys moved)

-- copies that are sorted, with no key twice in a row, are the record
pub rec_made : (pairs xs ys fields : Fields) → xs ≡ pairs → fields ≡ ys → IsPermutation xs ys → IsSorted field_cmp ys → first_repeated (keys_of ys) ≡ None → IsRecOf pairs fields
rec_made pairs xs ys fields copied is moved sorted none =
    let made : IsRecOf xs ys = record { ascending = ascending_sorted ys sorted none; just = moved } in
    subst (IsRecOf pairs) (sym is) (subst (λ (l : Fields). IsRecOf l ys) copied made)

-- and a key twice in a row is the least repeated one
pub repeat_found : (pairs xs ys : Fields) (key : List ℕ) → xs ≡ pairs → IsPermutation xs ys → IsSorted field_cmp ys → first_repeated (keys_of ys) ≡ Some key → IsDuplicateKey pairs key
repeat_found pairs xs ys key copied moved sorted some =
    let found = least_sorted ys key sorted some in
    let told : IsDuplicateKey xs key = record {
      repeated = omega (arith, count_moved xs ys key moved, found.repeated);
      least = λ k twice. at_most_is key k (found.least k (omega (arith, count_moved xs ys k moved)));
    } in
    subst (λ (l : Fields). IsDuplicateKey l key) copied told

-- ---- pairs make one record, or have one least repeated key, and never both

field_cmp_total : IsTotalOrder field_cmp
field_cmp_total = then_total (on_total (λ (f : List ℕ × Value). f.0) text_total) (on_total (λ (f : List ℕ × Value). f.1) value_cmp_total)

field_cmp_exact : CmpEqualImpliesEq field_cmp
field_cmp_exact = exact_pairs text_cmp value_cmp exact_bytes value_cmp_exact

below_fields : (f : List ℕ × Value) (fs : Fields) → AllByRecursion (λ k. text_cmp f.0 k ≡ Less) (keys_of fs) → AllByRecursion (λ g. field_cmp f g ≡ Less) fs
below_fields f [] h = tt
below_fields f (g ∷ fs) h = (ap (λ o. ordering_then o (value_cmp f.1 g.1)) h.0, below_fields f fs h.1)

ascending_fields : (fs : Fields) → IsStrictlySortedBy text_cmp (keys_of fs) → IsStrictlySortedBy field_cmp fs
unfolding IsStrictlySortedBy
ascending_fields [] h = tt
ascending_fields (f ∷ fs) h = (below_fields f fs h.0, ascending_fields fs h.1)

pub one_rec : (pairs r s : Fields) → IsRecOf pairs r → IsRecOf pairs s → r ≡ s
one_rec pairs r s a b = one_list field_cmp_total field_cmp_exact r s (ascending_fields r a.ascending) (ascending_fields s b.ascending) (λ f. (
  λ has. Contains-permutation pairs s f b.just (Contains-permutation r pairs f (IsPermutation-sym pairs r a.just) has),
  λ has. Contains-permutation pairs r f a.just (Contains-permutation s pairs f (IsPermutation-sym pairs s b.just) has),
))

not_below : (k : List ℕ) → text_cmp k k ≡ Less → ⊥
not_below k h = below_at_most k k h (at_most_itself k)

once_at : (k j : List ℕ) (keys : List (List ℕ)) (b : Bool) → bytes_eq k j ≡ b → AllByRecursion (λ y. text_cmp j y ≡ Less) keys → (2 ≤ count k keys → ⊥) → 2 ≤ count k (j ∷ keys) → ⊥
once_at k j keys true e below rest twice =
    let once : 1 ≤ count k keys = omega (arith, counted k j keys e) in
    not_below j (subst (λ (x : List ℕ). text_cmp j x ≡ Less) (bytes_eq_true k j e) (occurs (λ y. text_cmp j y ≡ Less) k keys once below))
once_at k j keys false e below rest twice = rest (omega (arith, passed k j keys e))

once : (k : List ℕ) (keys : List (List ℕ)) → IsStrictlySortedBy text_cmp keys → 2 ≤ count k keys → ⊥
unfolding IsStrictlySortedBy
once k [] h twice = absurd (omega arith)
once k (j ∷ keys) h twice = once_at k j keys (bytes_eq k j) refl h.0 (λ more. once k keys h.1 more) twice

pub no_repeat : (pairs r : Fields) (key : List ℕ) → IsRecOf pairs r → ¬ IsRepeated pairs key
no_repeat pairs r key a twice = once key (keys_of r) a.ascending (omega (arith, count_moved pairs r key a.just))

level_at_least : (o p : Ordering) → o ≡ ordering_reverse p → o ≢ Greater → p ≢ Greater → o ≡ Equal
level_at_least Less Less e n m = cc
level_at_least Less Equal e n m = cc
level_at_least Less Greater e n m = absurd (m refl)
level_at_least Equal p e n m = refl
level_at_least Greater p e n m = absurd (n refl)

pub one_duplicate : (pairs : Fields) (a b : List ℕ) → IsDuplicateKey pairs a → IsDuplicateKey pairs b → a ≡ b
one_duplicate pairs a b h k = exact_bytes a b (level_at_least (text_cmp a b) (text_cmp b a) (text_total.antisymm a b) (h.least b k.repeated) (k.least a h.repeated))
