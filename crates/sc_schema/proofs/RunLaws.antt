-- Uids that ascend: those of one type stand beside one another, and names take the first of them for all.
use Rattle.std.proofs.Common.{◌≡◌, ◌+◌, ◌≤◌, ℕ, zero, suc, List, [], ◌∷◌, Bool, true, false, cond, map, length, get_or, drop, refl, sym, ap, subst, ◌∙◌, inl, inr, arith}
use Rattle.std.specs.List.{AllByRecursion, fold, prefix_len}
use Rattle.std.specs.List.Sorted.{IsStrictlySortedBy, IsPartitionedBy, IsPartitionPoint}
use Rattle.std.specs.Ordering.{ordering_then}
use Rattle.std.specs.Str.{bytes_eq}
use Rattle.std.specs.declared.cmp.Ordering.{Ordering}
use Rattle.std.specs.declared.cmp.Ordering.TheVariants.{Less, Equal, Greater}
use Rattle.std.proofs.lemmas.Bool.{cases_lt}
use Rattle.std.proofs.lemmas.Cmp.{nat_list_cmp_total}
use Rattle.std.proofs.lemmas.List.Elements.{All-from_recursion}
use Rattle.std.proofs.lemmas.List.Sums.{prefix_len_is}
use Rattle.std.proofs.lemmas.Map.Keys.{sorted_head, sorted_tail, Less-from_sorted}
use Rattle.std.proofs.lemmas.Map.Lookups.{exact_bytes}
use Rattle.std.proofs.lemmas.Slice.Eq.{bytes_eq-Decides}
use Rattle.sc_names.specs.declared.uid.Uid.{Uid}
use Rattle.sc_names.specs.Uids.{text_cmp, uid_cmp}
use Rattle.sc_schema.specs.declared.declarations.Action.{Action}
use Rattle.sc_schema.specs.Declarations.{Declarations, with_name}
use Rattle.sc_schema.specs.Lawful.{IsLawfulAction}
use Rattle.sc_schema.proofs.OrderLaws.{above_from_below}

-- ---- where the uids of a type end

-- whether a uid is of a type
abbrev pub of_type : List ℕ → Uid → Bool
of_type name u = bytes_eq name u.type_name

not_greater : (r s : Ordering) → ordering_then r s ≡ Less → r ≡ Greater → ⊥
not_greater Less s h e = cc
not_greater Equal s h e = cc
not_greater Greater s h e = cc

-- what stands between two uids of one type is of this type too
between : (a b c : Uid) → a.type_name ≡ c.type_name → uid_cmp a b ≡ Less → uid_cmp b c ≡ Less → a.type_name ≡ b.type_name
between a b c same first last = step (text_cmp a.type_name b.type_name) refl where
  step : (r : Ordering) → text_cmp a.type_name b.type_name ≡ r → a.type_name ≡ b.type_name
  step Less e =
      let low : ordering_then (text_cmp b.type_name a.type_name) (text_cmp b.id c.id) ≡ Less =
      subst (λ (t : List ℕ). ordering_then (text_cmp b.type_name t) (text_cmp b.id c.id) ≡ Less) (sym same) last in
      absurd (not_greater (text_cmp b.type_name a.type_name) (text_cmp b.id c.id) low (above_from_below nat_list_cmp_total a.type_name b.type_name e))
  step Equal e = exact_bytes a.type_name b.type_name e
  step Greater e = absurd (not_greater (text_cmp a.type_name b.type_name) (text_cmp a.id b.id) first e)

pub parted : (u : Uid) (us : List Uid) → IsStrictlySortedBy uid_cmp (u ∷ us) → IsPartitionedBy (of_type u.type_name) us
parted u us a i j d low high e =
    elim (cases_lt i j) [
      | inl less ↦
          let first : uid_cmp u (get_or us i d) ≡ Less = All-from_recursion (λ v. uid_cmp u v ≡ Less) us (sorted_head uid_cmp u us a) i d (omega arith) in
          let last : uid_cmp (get_or us i d) (get_or us j d) ≡ Less = Less-from_sorted uid_cmp us i j d (sorted_tail uid_cmp u us a) less high in
          let same : u.type_name ≡ (get_or us j d).type_name = (bytes_eq-Decides u.type_name (get_or us j d).type_name).0 e in
          (bytes_eq-Decides u.type_name (get_or us i d).type_name).1 (between u (get_or us i d) (get_or us j d) same first last)
      | inr more ↦
          let same : j ≡ i = omega arith in
          subst (λ (k : ℕ). of_type u.type_name (get_or us k d) ≡ true) same e
    ]

pub run_is : (u : Uid) (us : List Uid) (i : ℕ) → i ≤ length us → IsPartitionPoint (λ v. of_type u.type_name v ≡ true) (λ v. of_type u.type_name v ≡ false) us i → i ≡ prefix_len (of_type u.type_name) us
run_is u us i within parts = sym (prefix_len_is (of_type u.type_name) us i u within (λ k less. parts.0 k u (omega arith) less) (λ more. parts.1 i u (omega arith) more))

-- ---- what comes behind them

pub sorted_drop : (k : ℕ) (us : List Uid) → IsStrictlySortedBy uid_cmp us → IsStrictlySortedBy uid_cmp (drop k us)
sorted_drop zero us a = a
sorted_drop (suc k) [] a = a
sorted_drop (suc k) (u ∷ us) a = sorted_drop k us (sorted_tail uid_cmp u us a)

-- a name that is there is put for each uid of its type
pub put_run : (names : List (List ℕ)) (name : List ℕ) (us : List Uid) → with_name names name ≡ names
    → fold with_name names (map (λ (u : Uid). u.type_name) (drop (prefix_len (of_type name) us) us)) ≡ fold with_name names (map (λ (u : Uid). u.type_name) us)
put_run names name [] there = refl
put_run names name (v ∷ us) there = step (of_type name v) refl (put_run names name us there) where
  step : (b : Bool) → of_type name v ≡ b
      → fold with_name names (map (λ (u : Uid). u.type_name) (drop (prefix_len (of_type name) us) us)) ≡ fold with_name names (map (λ (u : Uid). u.type_name) us)
      → fold with_name names (map (λ (u : Uid). u.type_name) (drop (cond b (1 + prefix_len (of_type name) us) 0) (v ∷ us))) ≡ fold with_name names (map (λ (u : Uid). u.type_name) (v ∷ us))
  step false e later = refl
  step true e later =
      let one : 1 + prefix_len (of_type name) us ≡ suc (prefix_len (of_type name) us) = omega arith in
      let same : name ≡ v.type_name = (bytes_eq-Decides name v.type_name).0 e in
      ap (λ (k : ℕ). fold with_name names (map (λ (u : Uid). u.type_name) (drop k (v ∷ us)))) one
      ∙ (later
      ∙ ap (λ (ns : List (List ℕ)). fold with_name ns (map (λ (u : Uid). u.type_name) us)) (sym (ap (with_name names) (sym same) ∙ there)))

-- where there are no further uids, all are put
pub at_end : (names : List (List ℕ)) (us : List Uid) → length us ≡ 0 → names ≡ fold with_name names (map (λ (u : Uid). u.type_name) us)
at_end names [] e = refl
at_end names (u ∷ us) e = absurd (omega arith)

-- the ancestors of each action ascend
pub each_ascends : (s : Declarations) (actions : List Action) → AllByRecursion (IsLawfulAction s) actions → AllByRecursion (λ (a : Action). IsStrictlySortedBy uid_cmp a.ancestors) actions
each_ascends s [] h = tt
each_ascends s (a ∷ actions) h = (h.0.ascending, each_ascends s actions h.1)
