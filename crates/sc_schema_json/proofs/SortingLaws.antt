-- Lists that are put in order.
use Rattle.std.proofs.Common.{◌≡◌, ◌↔◌, ℕ, ◌+◌, ◌<◌, List, [], ◌∷◌, Bool, true, false, length, get_or, map, refl, sym, ap, subst, ◌∙◌, arith, Contains, IsPermutation}
use Rattle.std.proofs.Math.Path.{fun_ext}
use Rattle.std.proofs.lemmas.Cmp.{nat_list_cmp_total, eq_by_cmp_equiv, tied_itself}
use Rattle.std.proofs.lemmas.List.{get_or-map, length-map}
use Rattle.std.proofs.lemmas.List.Filters.{dedup_is}
use Rattle.std.proofs.lemmas.List.Kept.{IsStrictlySortedBy-dedup, Contains-dedup, Contains-from_dedup}
use Rattle.std.proofs.lemmas.List.Sorted.{IsPermutation-map, IsPermutation-sym, Contains-permutation}
use Rattle.std.proofs.lemmas.Map.Keys.{IsDistinct-IsPermutation, apart_from_distinct, sorted_from_all_adjacent}
use Rattle.std.proofs.lemmas.Map.Lookups.{exact_bytes}
use Rattle.std.proofs.lemmas.Map.Text.{is_eq-slice_cmp}
use Rattle.std.proofs.lemmas.Map.Views.{tells_apart}
use Rattle.std.specs.Bool.{Decides}
use Rattle.std.specs.Cmp.{IsTotalOrder}
use Rattle.std.specs.List.{IsDistinct, dedup}
use Rattle.std.specs.List.Retain.{IsFiltered, DiffersFromLast}
use Rattle.std.specs.List.Sorted.{IsSorted, IsSortedBy, IsStrictlySortedBy}
use Rattle.std.specs.Ordering.{eq_by_cmp, is_eq, is_lt, ordering_reverse}
use Rattle.std.specs.Str.{bytes_eq}
use Rattle.std.specs.declared.cmp.Ordering.{Ordering}
use Rattle.std.specs.declared.cmp.Ordering.TheVariants.{Less, Equal, Greater}
use Rattle.sc_lists.proofs.OrderingLaws.{is_eq_true}
use Rattle.sc_names.specs.contracts.name.NameEq.TheImpl.Laws.{laws-law}
use Rattle.sc_names.specs.contracts.name.NameOrd.TheImpl.Laws.{matches_eq-law}
use Rattle.sc_names.specs.contracts.name.NamePartialEq.TheImpl.{ghosts}
use Rattle.sc_names.specs.declared.uid.Uid.{Uid}
use Rattle.sc_names.specs.Uids.{text_cmp, uid_cmp}
use Rattle.sc_names.proofs.UidLaws.{uid_cmp_total, uid_cmp_level}
use Rattle.sc_schema.specs.Declarations.{uid_eq}
use Rattle.sc_schema.proofs.PlaceLaws.{uid_eq-Decides}
use Rattle.sc_schema_json.specs.Schemas.{AreInOrder}

-- ---- keys that differ, once they don't fall

below : (there back : Ordering) → back ≡ ordering_reverse there → is_lt back ≡ false → is_eq there ≡ false → there ≡ Less
below Less back turned late apart = refl
below Equal back turned late apart = absurd (let no : true ≡ false = apart in cc)
below Greater back turned late apart = absurd (let no : true ≡ false = sym (ap is_lt turned) ∙ late in cc)

module _ {X K : Type 0} {R : K → K → Ordering} (o : IsTotalOrder R) (key : X → K) where
  rising : (y : X) (ys : List X) → IsSortedBy (λ a b. is_lt (R (key a) (key b))) (y ∷ ys) → IsDistinct (eq_by_cmp R) (map key (y ∷ ys)) → (k : ℕ) → k + 1 < length (map key (y ∷ ys))
      → R (get_or (map key (y ∷ ys)) k (key y)) (get_or (map key (y ∷ ys)) (k + 1) (key y)) ≡ Less
  rising y ys sorted distinct k within =
      let short : k + 1 < length (y ∷ ys) = subst (λ n. k + 1 < n) (length-map (y ∷ ys) key) within in
      let here : get_or (map key (y ∷ ys)) k (key y) ≡ key (get_or (y ∷ ys) k y) = get_or-map key (y ∷ ys) k y (key y) (omega arith) in
      let next : get_or (map key (y ∷ ys)) (k + 1) (key y) ≡ key (get_or (y ∷ ys) (k + 1) y) = get_or-map key (y ∷ ys) (k + 1) y (key y) short in
      let late : is_lt (R (key (get_or (y ∷ ys) (k + 1) y)) (key (get_or (y ∷ ys) k y))) ≡ false = sorted k y (omega arith) short in
      let apart : is_eq (R (get_or (map key (y ∷ ys)) k (key y)) (get_or (map key (y ∷ ys)) (k + 1) (key y))) ≡ false = apart_from_distinct (eq_by_cmp R) (map key (y ∷ ys)) k (k + 1) (key y) distinct (omega arith) within in
      below _ _ (o.antisymm (get_or (map key (y ∷ ys)) (k + 1) (key y)) (get_or (map key (y ∷ ys)) k (key y))) (rw (here, next) late) apart

  ascend : (ys : List X) → IsSortedBy (λ a b. is_lt (R (key a) (key b))) ys → IsDistinct (eq_by_cmp R) (map key ys) → IsStrictlySortedBy R (map key ys)
  unfolding IsStrictlySortedBy
  ascend [] sorted distinct = tt
  ascend (y ∷ ys) sorted distinct = sorted_from_all_adjacent o (map key (y ∷ ys)) (key y) (rising y ys sorted distinct)

  pub in_order : (xs ys : List X) → IsPermutation xs ys → IsDistinct (eq_by_cmp R) (map key xs) → IsSortedBy (λ a b. is_lt (R (key a) (key b))) ys → IsStrictlySortedBy R (map key ys)
  in_order xs ys permutation distinct sorted =
      ascend ys sorted (IsDistinct-IsPermutation (eq_by_cmp R) (eq_by_cmp_equiv o).symm (map key xs) (map key ys) (IsPermutation-map key xs ys permutation) distinct)

-- ---- the tests of names and of uids

name_test : bytes_eq ≡ eq_by_cmp text_cmp
name_test = fun_ext (λ x. fun_ext (λ y. sym (is_eq-slice_cmp x y)))

-- two tests that decide one thing are one
one_test : {A : Type 0} (a b : Bool) → Decides a A → Decides b A → a ≡ b
one_test true true p q = refl
one_test true false p q = sym (q.1 (p.0 refl))
one_test false true p q = p.1 (q.0 refl)
one_test false false p q = refl

uid_test : uid_eq ≡ eq_by_cmp uid_cmp
uid_test = fun_ext (λ u. fun_ext (λ v. one_test (uid_eq u v) (eq_by_cmp uid_cmp u v) (uid_eq-Decides u v) (decides u v))) where
  decides : (u v : Uid) → Decides (eq_by_cmp uid_cmp u v) (u ≡ v)
  decides u v = (λ h. uid_cmp_level u v (is_eq_true (uid_cmp u v) h), λ e. ap is_eq (ap (uid_cmp u) (sym e) ∙ tied_itself uid_cmp_total u))

pub by_name : {X : Type 0} (name : X → List ℕ) (xs ys : List X) → IsPermutation xs ys → IsDistinct bytes_eq (map name xs) → IsSortedBy (λ a b. is_lt (text_cmp (name a) (name b))) ys
    → IsStrictlySortedBy text_cmp (map name ys)
by_name name xs ys permutation distinct sorted =
    in_order nat_list_cmp_total name xs ys permutation (subst (λ (e : List ℕ → List ℕ → Bool). IsDistinct e (map name xs)) name_test distinct) sorted

pub by_uid : {X : Type 0} (uid : X → Uid) (xs ys : List X) → IsPermutation xs ys → IsDistinct uid_eq (map uid xs) → IsSortedBy (λ a b. is_lt (uid_cmp (uid a) (uid b))) ys
    → IsStrictlySortedBy uid_cmp (map uid ys)
by_uid uid xs ys permutation distinct sorted =
    in_order uid_cmp_total uid xs ys permutation (subst (λ (e : Uid → Uid → Bool). IsDistinct e (map uid xs)) uid_test distinct) sorted

-- ---- names, each kept once

names_members : (xs ys zs : List (List ℕ)) → IsPermutation xs ys → IsFiltered (DiffersFromLast ghosts.eq) [] ys zs → (name : List ℕ) → Contains zs name ↔ Contains xs name
names_members xs ys zs permutation filtered name =
    let is : zs ≡ dedup ghosts.eq ys = dedup_is ghosts.eq ys zs filtered in
    let P : List (List ℕ) → Type 0 = λ l. Contains l name in (
      λ h. Contains-permutation ys xs name (IsPermutation-sym xs ys permutation) (Contains-from_dedup ghosts.eq ys name (subst P is h)),
      λ h. subst P (sym is) (Contains-dedup laws-law (λ a b e. tells_apart exact_bytes a b (sym (matches_eq-law a b) ∙ e)) ys name (Contains-permutation xs ys name permutation h)),
    )

pub names_once : (xs ys zs : List (List ℕ)) → IsPermutation xs ys → IsSorted text_cmp ys → IsFiltered (DiffersFromLast ghosts.eq) [] ys zs → AreInOrder xs zs
names_once xs ys zs permutation sorted filtered =
    record {
      ascending = subst (IsStrictlySortedBy text_cmp) (sym (dedup_is ghosts.eq ys zs filtered)) (IsStrictlySortedBy-dedup nat_list_cmp_total (λ a b. matches_eq-law a b) ys sorted);
      members = names_members xs ys zs permutation filtered;
    }
