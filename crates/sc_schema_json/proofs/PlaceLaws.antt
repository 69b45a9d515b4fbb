-- What the place of a key tells.
use Rattle.std.proofs.Common.{◌≡◌, ◌↔◌, ◌<◌, ◌+◌, ◌-◌, ℕ, List, take, drop, length, get_or, true, false, Option, Some, None, Result, Ok, Err, is_ok, IfOk, IfErr, IsTrue, refl, sym, ap, subst, ◌∙◌, inl, inr, arith, Contains, IsSomeAnd}
use Rattle.std.specs.Cmp.{IsTotalOrder}
use Rattle.std.specs.List.{slice_get}
use Rattle.std.specs.declared.cmp.Ordering.{Ordering}
use Rattle.std.specs.declared.cmp.Ordering.TheVariants.{Less, Equal}
use Rattle.std.proofs.lemmas.Bool.{cases_lt}
use Rattle.std.proofs.lemmas.Cmp.{nat_list_cmp_total}
use Rattle.std.proofs.lemmas.List.{get_or-take, get_or-drop, length-take-le, length-drop}
use Rattle.std.proofs.lemmas.Map.Lookups.{CmpEqualImpliesEq, exact_bytes}
use Rattle.sc_lists.proofs.ListLaws.{contains_place}
use Rattle.sc_lists.specs.Ordered.{StandsAt, BelongsAt}
use Rattle.sc_names.specs.declared.uid.Uid.{Uid}
use Rattle.sc_names.specs.Uids.{text_cmp, uid_cmp}
use Rattle.sc_names.proofs.UidLaws.{uid_cmp_total, uid_cmp_level}
use Rattle.sc_schema.proofs.OrderLaws.{not_below}

stands_is : {K : Type 0} {R : K → K → Ordering} → CmpEqualImpliesEq R → (o : Option K) (k : K) → IsSomeAnd o (λ y. R k y ≡ Equal) → o ≡ Some k
stands_is level None k h = absurd h
stands_is level (Some y) k h = ap Some (sym (level k y h))

belongs_absent : {K : Type 0} {R : K → K → Ordering} (o : IsTotalOrder R) (keys : List K) (k : K) (i : ℕ) → BelongsAt R keys k i → ¬ Contains keys k
belongs_absent {K} {R} o keys k i b = λ has.
    let is : get_or keys has.0 k ≡ k = has.2 in
    elim (cases_lt has.0 i) [
      | inl before ↦
          let short : length (take i keys) ≡ i = length-take-le i keys b.within in
          let below : R (get_or (take i keys) has.0 k) k ≡ Less = b.above has.0 k (subst (λ n. has.0 < n) (sym short) before) in
          not_below o k (subst (λ (y : K). R y k ≡ Less) (get_or-take i keys has.0 k before ∙ is) below)
      | inr after ↦
          let within : has.0 < length keys = has.1 in
          let far : has.0 - i < length (drop i keys) = subst (λ n. has.0 - i < n) (sym (length-drop i keys)) (omega (arith, within, after)) in
          let there : i + (has.0 - i) ≡ has.0 = omega (arith, after) in
          let above : R k (get_or (drop i keys) (has.0 - i) k) ≡ Less = b.below (has.0 - i) k far in
          not_below o k (subst (λ (y : K). R k y ≡ Less) (get_or-drop i keys (has.0 - i) k ∙ (ap (λ n. get_or keys n k) there ∙ is)) above)
    ]

pub name_found : (keys : List (List ℕ)) (k : List ℕ) (i : ℕ) → StandsAt text_cmp keys k i → slice_get keys i ≡ Some k
name_found keys k i h = stands_is exact_bytes (slice_get keys i) k h

pub name_absent : (keys : List (List ℕ)) (k : List ℕ) (i : ℕ) → BelongsAt text_cmp keys k i → ¬ Contains keys k
name_absent = belongs_absent nat_list_cmp_total

pub uid_found : (keys : List Uid) (k : Uid) (i : ℕ) → StandsAt uid_cmp keys k i → slice_get keys i ≡ Some k
uid_found keys k i h = stands_is uid_cmp_level (slice_get keys i) k h

pub uid_absent : (keys : List Uid) (k : Uid) (i : ℕ) → BelongsAt uid_cmp keys k i → ¬ Contains keys k
uid_absent = belongs_absent uid_cmp_total

among : {K : Type 0} {R : K → K → Ordering} (o : IsTotalOrder R) → CmpEqualImpliesEq R → (keys : List K) (k : K) (r : Result ℕ ℕ) → IfOk r (StandsAt R keys k) → IfErr r (BelongsAt R keys k) → IsTrue (is_ok r) ↔ Contains keys k
among o level keys k (Ok i) found absent = (λ h. contains_place keys i k (stands_is level (slice_get keys i) k found), λ h. refl)
among o level keys k (Err i) found absent = (λ h. absurd (let no : false ≡ true = h in cc), λ h. absurd (belongs_absent o keys k i absent h))

pub name_among : (keys : List (List ℕ)) (k : List ℕ) (r : Result ℕ ℕ) → IfOk r (StandsAt text_cmp keys k) → IfErr r (BelongsAt text_cmp keys k) → IsTrue (is_ok r) ↔ Contains keys k
name_among = among nat_list_cmp_total exact_bytes

pub uid_among : (keys : List Uid) (k : Uid) (r : Result ℕ ℕ) → IfOk r (StandsAt uid_cmp keys k) → IfErr r (BelongsAt uid_cmp keys k) → IsTrue (is_ok r) ↔ Contains keys k
uid_among = among uid_cmp_total uid_cmp_level
