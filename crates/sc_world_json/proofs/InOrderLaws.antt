-- The members of a list in order: they ascend, they are those of the list, and so they are what sorting and dropping
-- repeats makes.
use Rattle.std.proofs.Common.{◌≡◌, ◌↔◌, ◌⊎◌, List, [], ◌∷◌, Contains, refl, sym, ap, ◌∙◌, subst, inl, inr}
use Rattle.std.specs.BTreeSet.{insert_key}
use Rattle.std.specs.Cmp.{IsTotalOrder}
use Rattle.std.specs.List.{AllByRecursion}
use Rattle.std.specs.List.Retain.{IsFiltered, DiffersFromLast}
use Rattle.std.specs.List.Sorted.{IsSorted, IsStrictlySortedBy, IsPermutation}
use Rattle.std.specs.Ordering.{match_ordering}
use Rattle.std.specs.declared.cmp.Ordering.{Ordering}
use Rattle.std.specs.declared.cmp.Ordering.TheVariants.{Less, Equal, Greater}
use Rattle.std.proofs.lemmas.Map.Keys.{sorted_head, sorted_tail}
use Rattle.std.proofs.lemmas.Map.Lookups.{CmpEqualImpliesEq}
use Rattle.sc_lists.proofs.ListLaws.{contains_nothing, contains_split, contains_rest, contains_first}
use Rattle.sc_lists.proofs.OrderedLaws.{ascending-insert_key}
use Rattle.sc_names.specs.declared.uid.Uid.{Uid}
use Rattle.sc_names.specs.Uids.{uid_cmp}
use Rattle.sc_names.proofs.LitsLaws as lits
use Rattle.sc_names.proofs.UidLaws.{uid_cmp_total, uid_cmp_level}
use Rattle.sc_names.specs.contracts.uid.UidPartialEq.TheImpl.{ghosts as uid_ghosts}
use Rattle.sc_values.specs.declared.value.Value.{Value}
use Rattle.sc_values.specs.contracts.value.ValueOrd.TheImpl.{ghosts as value_order}
use Rattle.sc_values.specs.contracts.value.ValuePartialEq.TheImpl.{ghosts as value_ghosts}
use Rattle.sc_values.specs.Order.{value_cmp}
use Rattle.sc_values.proofs.AscendingLaws.{one_list}
use Rattle.sc_values.proofs.OrderLaws.{value_cmp_total, value_cmp_exact}
use Rattle.sc_values.proofs.SetLaws.{set_made}
use Rattle.sc_world_json.specs.Worlds.{in_order}

module _ {K : Type 0} {R : K → K → Ordering} (o : IsTotalOrder R) (exact : CmpEqualImpliesEq R) where
  -- ---- one more member

  from_step : (c : Ordering) (x z : K) (zs ks : List K) (u : K) → (Contains ks u → (x ≡ u) ⊎ Contains zs u)
      → Contains (match_ordering c (x ∷ z ∷ zs) (z ∷ zs) (z ∷ ks)) u → (x ≡ u) ⊎ Contains (z ∷ zs) u
  from_step Less x z zs ks u later has = contains_split x (z ∷ zs) u has
  from_step Equal x z zs ks u later has = inr has
  from_step Greater x z zs ks u later has = elim (contains_split z ks u has) [
    | inl is ↦ inr (subst (λ (w : K). Contains (z ∷ zs) w) is (contains_first z zs))
    | inr after ↦ elim (later after) [ inl is ↦ inl is | inr before ↦ inr (contains_rest z zs u before) ]
  ]

  Contains-from_insert_key : (xs : List K) (x u : K) → Contains (insert_key R xs x) u → (x ≡ u) ⊎ Contains xs u
  Contains-from_insert_key [] x u has = contains_split x [] u has
  Contains-from_insert_key (z ∷ zs) x u has = from_step (R x z) x z zs (insert_key R zs x) u (Contains-from_insert_key zs x u) has

  new_step : (c : Ordering) (x z : K) (zs ks : List K) → (c ≡ Equal → x ≡ z) → Contains ks x → Contains (match_ordering c (x ∷ z ∷ zs) (z ∷ zs) (z ∷ ks)) x
  new_step Less x z zs ks same later = contains_first x (z ∷ zs)
  new_step Equal x z zs ks same later = subst (λ (w : K). Contains (z ∷ zs) w) (sym (same refl)) (contains_first z zs)
  new_step Greater x z zs ks same later = contains_rest z ks x later

  Contains-insert_key_new : (xs : List K) (x : K) → Contains (insert_key R xs x) x
  Contains-insert_key_new [] x = contains_first x []
  Contains-insert_key_new (z ∷ zs) x = new_step (R x z) x z zs (insert_key R zs x) (exact x z) (Contains-insert_key_new zs x)

  old_step : (c : Ordering) (x z : K) (zs ks : List K) (u : K) → (Contains zs u → Contains ks u) → Contains (z ∷ zs) u → Contains (match_ordering c (x ∷ z ∷ zs) (z ∷ zs) (z ∷ ks)) u
  old_step Less x z zs ks u later has = contains_rest x (z ∷ zs) u has
  old_step Equal x z zs ks u later has = has
  old_step Greater x z zs ks u later has = elim (contains_split z zs u has) [
    | inl is ↦ subst (λ (w : K). Contains (z ∷ ks) w) is (contains_first z ks)
    | inr after ↦ contains_rest z ks u (later after)
  ]

  Contains-insert_key_old : (xs : List K) (x u : K) → Contains xs u → Contains (insert_key R xs x) u
  Contains-insert_key_old [] x u has = absurd (contains_nothing u has)
  Contains-insert_key_old (z ∷ zs) x u has = old_step (R x z) x z zs (insert_key R zs x) u (Contains-insert_key_old zs x u) has

  -- ---- the whole

  pub ascending-in_order : (xs : List K) → IsStrictlySortedBy R (in_order R xs)
  unfolding IsStrictlySortedBy
  ascending-in_order [] = tt
  ascending-in_order (x ∷ xs) = ascending-insert_key o (in_order R xs) x (ascending-in_order xs)

  from_in_order : (xs : List K) (u : K) → Contains (in_order R xs) u → Contains xs u
  from_in_order [] u has = absurd (contains_nothing u has)
  from_in_order (x ∷ xs) u has = elim (Contains-from_insert_key (in_order R xs) x u has) [
    | inl is ↦ subst (λ (w : K). Contains (x ∷ xs) w) is (contains_first x xs)
    | inr later ↦ contains_rest x xs u (from_in_order xs u later)
  ]

  to_in_order : (xs : List K) (u : K) → Contains xs u → Contains (in_order R xs) u
  to_in_order [] u has = absurd (contains_nothing u has)
  to_in_order (x ∷ xs) u has = elim (contains_split x xs u has) [
    | inl is ↦ subst (λ (w : K). Contains (insert_key R (in_order R xs) x) w) is (Contains-insert_key_new (in_order R xs) x)
    | inr later ↦ Contains-insert_key_old (in_order R xs) x u (to_in_order xs u later)
  ]

  -- an ascending list of the same members is the members in order
  pub in_order-is : (xs ys : List K) → IsStrictlySortedBy R ys → ((u : K) → Contains ys u ↔ Contains xs u) → ys ≡ in_order R xs
  in_order-is xs ys ascending just =
      one_list o exact ys (in_order R xs) ascending (ascending-in_order xs) (λ u.
      (λ has. to_in_order xs u ((just u).0 has), λ has. (just u).1 (from_in_order xs u has)))

  below_head : (x : K) (xs : List K) → AllByRecursion (λ y. R x y ≡ Less) xs → insert_key R xs x ≡ x ∷ xs
  below_head x [] below = refl
  below_head x (y ∷ ys) below = ap (λ (c : Ordering). match_ordering c (x ∷ y ∷ ys) (y ∷ ys) (y ∷ insert_key R ys x)) below.0

  -- members that ascend are in order
  pub in_order-same : (xs : List K) → IsStrictlySortedBy R xs → in_order R xs ≡ xs
  in_order-same [] ascending = refl
  in_order-same (x ∷ xs) ascending =
      ap (λ (ys : List K). insert_key R ys x) (in_order-same xs (sorted_tail R x xs ascending)) ∙ below_head x xs (sorted_head R x xs ascending)

-- each member of a list in order is one of the list
pub all-in_order : {K : Type 0} (R : K → K → Ordering) (P : K → Type 0) (xs : List K) → AllByRecursion P xs → AllByRecursion P (in_order R xs)
all-in_order R P [] all = tt
all-in_order R P (x ∷ xs) all = all-insert (in_order R xs) x all.0 (all-in_order R P xs all.1) where
  step : (c : Ordering) (x z : _) (zs ks : List _) → P x → P z → AllByRecursion P zs → AllByRecursion P ks → AllByRecursion P (match_ordering c (x ∷ z ∷ zs) (z ∷ zs) (z ∷ ks))
  step Less x z zs ks px pz all later = (px, (pz, all))
  step Equal x z zs ks px pz all later = (pz, all)
  step Greater x z zs ks px pz all later = (pz, later)

  all-insert : (ys : List _) (x : _) → P x → AllByRecursion P ys → AllByRecursion P (insert_key R ys x)
  all-insert [] x px all = (px, tt)
  all-insert (z ∷ zs) x px all = step (R x z) x z zs (insert_key R zs x) px all.0 all.1 (all-insert zs x px all.1)

-- ---- uids and values

pub uids_made : (xs ys zs us : List Uid) → us ≡ zs → IsPermutation xs ys → IsSorted uid_cmp ys → IsFiltered (DiffersFromLast uid_ghosts.eq) [] ys zs → us ≡ in_order uid_cmp xs
uids_made xs ys zs us is permutation sorted filtered =
    is ∙ in_order-is uid_cmp_total uid_cmp_level xs zs (lits.ascending ys zs sorted filtered) (lits.members xs ys zs permutation filtered)

pub values_made : (xs ys zs vs : List Value) → vs ≡ zs → IsPermutation xs ys → IsSorted value_order.cmp ys → IsFiltered (DiffersFromLast value_ghosts.eq) [] ys zs → vs ≡ in_order value_cmp xs
values_made xs ys zs vs is permutation sorted filtered =
    let made = set_made xs xs ys zs vs refl is permutation sorted filtered in
    in_order-is value_cmp_total value_cmp_exact xs vs made.ascending made.just
