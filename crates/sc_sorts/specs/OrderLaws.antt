-- The order that `Ord` gives is the one by kind and then by what is within; it is total, and only equal sorts are
-- level in it.
use Rattle.std.proofs.Common.{◌≡◌, ◌↔◌, ℕ, true, List, [], ◌∷◌, map, refl, sym, ap, ◌∙◌, subst}
use Rattle.std.specs.declared.cmp.Ordering.TheVariants.{Equal}
use Rattle.std.specs.Ordering.{is_eq}
use Rattle.std.specs.Cmp.{IsTotalOrder}
use Rattle.std.specs.Cmp.Lexicographic.{slice_cmp}
use Rattle.std.proofs.lemmas.Cmp.{tied_itself}
use Rattle.std.proofs.lemmas.Map.Lookups.{CmpEqualImpliesEq, exact_bytes}
use Rattle.sc_lists.proofs.OrderingLaws.{ordering_then_equal, is_eq_true}
use Rattle.sc_names.specs.declared.uid.Uid.{Uid}
use Rattle.sc_names.specs.Uids.{uid_cmp}
use Rattle.sc_names.proofs.UidLaws.{uid_cmp_level}
use Rattle.sc_sorts.specs.declared.sort.Sort.{Sort, Sort-F, out-Sort, roll-Sort, ind-Sort, map-Sort, out-roll-Sort, roll-out-Sort}
use Rattle.sc_sorts.specs.declared.sort.Sort.TheOpen as s
use Rattle.sc_sorts.specs.contracts.sort.SortOrd.TheImpl.Laws.{is, unfolded, total-law, matches_eq-law}
use Rattle.sc_sorts.specs.contracts.sort.SortPartialEq.TheImpl.{ghosts as equality}
use Rattle.sc_sorts.specs.Order.{sort_cmp, field_cmp, by_kind}

pub sort_cmp_total : IsTotalOrder sort_cmp
unfolding sort_cmp
sort_cmp_total = total-law

-- ---- by kind

unfolded_level : (a b : Sort) (x y : Sort-F Sort) → out-Sort a ≡ x → out-Sort b ≡ y → unfolded a b ≡ by_kind x y
unfolding sort_cmp
unfolded_level a b s.Bool s.Bool e f = rw (e, f) refl
unfolded_level a b s.Bool s.Long e f = rw (e, f) refl
unfolded_level a b s.Bool s.String e f = rw (e, f) refl
unfolded_level a b s.Bool s.Decimal e f = rw (e, f) refl
unfolded_level a b s.Bool s.Ip e f = rw (e, f) refl
unfolded_level a b s.Bool (s.Entity n ns) e f = rw (e, f) refl
unfolded_level a b s.Bool (s.Set n) e f = rw (e, f) refl
unfolded_level a b s.Bool (s.Record n) e f = rw (e, f) refl
unfolded_level a b s.Bool (s.Option n) e f = rw (e, f) refl
unfolded_level a b s.Long s.Bool e f = rw (e, f) refl
unfolded_level a b s.Long s.Long e f = rw (e, f) refl
unfolded_level a b s.Long s.String e f = rw (e, f) refl
unfolded_level a b s.Long s.Decimal e f = rw (e, f) refl
unfolded_level a b s.Long s.Ip e f = rw (e, f) refl
unfolded_level a b s.Long (s.Entity n ns) e f = rw (e, f) refl
unfolded_level a b s.Long (s.Set n) e f = rw (e, f) refl
unfolded_level a b s.Long (s.Record n) e f = rw (e, f) refl
unfolded_level a b s.Long (s.Option n) e f = rw (e, f) refl
unfolded_level a b s.String s.Bool e f = rw (e, f) refl
unfolded_level a b s.String s.Long e f = rw (e, f) refl
unfolded_level a b s.String s.String e f = rw (e, f) refl
unfolded_level a b s.String s.Decimal e f = rw (e, f) refl
unfolded_level a b s.String s.Ip e f = rw (e, f) refl
unfolded_level a b s.String (s.Entity n ns) e f = rw (e, f) refl
unfolded_level a b s.String (s.Set n) e f = rw (e, f) refl
unfolded_level a b s.String (s.Record n) e f = rw (e, f) refl
unfolded_level a b s.String (s.Option n) e f = rw (e, f) refl
unfolded_level a b s.Decimal s.Bool e f = rw (e, f) refl
unfolded_level a b s.Decimal s.Long e f = rw (e, f) refl
unfolded_level a b s.Decimal s.String e f = rw (e, f) refl
unfolded_level a b s.Decimal s.Decimal e f = rw (e, f) refl
unfolded_level a b s.Decimal s.Ip e f = rw (e, f) refl
unfolded_level a b s.Decimal (s.Entity n ns) e f = rw (e, f) refl
unfolded_level a b s.Decimal (s.Set n) e f = rw (e, f) refl
unfolded_level a b s.Decimal (s.Record n) e f = rw (e, f) refl
unfolded_level a b s.Decimal (s.Option n) e f = rw (e, f) refl
unfolded_level a b s.Ip s.Bool e f = rw (e, f) refl
unfolded_level a b s.Ip s.Long e f = rw (e, f) refl
unfolded_level a b s.Ip s.String e f = rw (e, f) refl
unfolded_level a b s.Ip s.Decimal e f = rw (e, f) refl
unfolded_level a b s.Ip s.Ip e f = rw (e, f) refl
unfolded_level a b s.Ip (s.Entity n ns) e f = rw (e, f) refl
unfolded_level a b s.Ip (s.Set n) e f = rw (e, f) refl
unfolded_level a b s.Ip (s.Record n) e f = rw (e, f) refl
unfolded_level a b s.Ip (s.Option n) e f = rw (e, f) refl
unfolded_level a b (s.Entity m ms) s.Bool e f = rw (e, f) refl
unfolded_level a b (s.Entity m ms) s.Long e f = rw (e, f) refl
unfolded_level a b (s.Entity m ms) s.String e f = rw (e, f) refl
unfolded_level a b (s.Entity m ms) s.Decimal e f = rw (e, f) refl
unfolded_level a b (s.Entity m ms) s.Ip e f = rw (e, f) refl
unfolded_level a b (s.Entity m ms) (s.Entity n ns) e f = rw (e, f) refl
unfolded_level a b (s.Entity m ms) (s.Set n) e f = rw (e, f) refl
unfolded_level a b (s.Entity m ms) (s.Record n) e f = rw (e, f) refl
unfolded_level a b (s.Entity m ms) (s.Option n) e f = rw (e, f) refl
unfolded_level a b (s.Set m) s.Bool e f = rw (e, f) refl
unfolded_level a b (s.Set m) s.Long e f = rw (e, f) refl
unfolded_level a b (s.Set m) s.String e f = rw (e, f) refl
unfolded_level a b (s.Set m) s.Decimal e f = rw (e, f) refl
unfolded_level a b (s.Set m) s.Ip e f = rw (e, f) refl
unfolded_level a b (s.Set m) (s.Entity n ns) e f = rw (e, f) refl
unfolded_level a b (s.Set m) (s.Set n) e f = rw (e, f) refl
unfolded_level a b (s.Set m) (s.Record n) e f = rw (e, f) refl
unfolded_level a b (s.Set m) (s.Option n) e f = rw (e, f) refl
unfolded_level a b (s.Record m) s.Bool e f = rw (e, f) refl
unfolded_level a b (s.Record m) s.Long e f = rw (e, f) refl
unfolded_level a b (s.Record m) s.String e f = rw (e, f) refl
unfolded_level a b (s.Record m) s.Decimal e f = rw (e, f) refl
unfolded_level a b (s.Record m) s.Ip e f = rw (e, f) refl
unfolded_level a b (s.Record m) (s.Entity n ns) e f = rw (e, f) refl
unfolded_level a b (s.Record m) (s.Set n) e f = rw (e, f) refl
unfolded_level a b (s.Record m) (s.Record n) e f = rw (e, f) refl
unfolded_level a b (s.Record m) (s.Option n) e f = rw (e, f) refl
unfolded_level a b (s.Option m) s.Bool e f = rw (e, f) refl
unfolded_level a b (s.Option m) s.Long e f = rw (e, f) refl
unfolded_level a b (s.Option m) s.String e f = rw (e, f) refl
unfolded_level a b (s.Option m) s.Decimal e f = rw (e, f) refl
unfolded_level a b (s.Option m) s.Ip e f = rw (e, f) refl
unfolded_level a b (s.Option m) (s.Entity n ns) e f = rw (e, f) refl
unfolded_level a b (s.Option m) (s.Set n) e f = rw (e, f) refl
unfolded_level a b (s.Option m) (s.Record n) e f = rw (e, f) refl
unfolded_level a b (s.Option m) (s.Option n) e f = rw (e, f) refl

pub sort_cmp_by_kind : (a b : Sort) → sort_cmp a b ≡ by_kind (out-Sort a) (out-Sort b)
unfolding sort_cmp
sort_cmp_by_kind a b = is a b ∙ unfolded_level a b (out-Sort a) (out-Sort b) refl refl

-- ---- only equal sorts are level

abbrev IsExact : Sort → Type 0
IsExact a = (b : Sort) → sort_cmp a b ≡ Equal → a ≡ b

abbrev Known : Type 0
Known = (a : Sort) × IsExact a

abbrev forget_fields : List (List ℕ × Known) → List (List ℕ × Sort)
forget_fields es = map (λ (e : List ℕ × Known). (e.0, e.1.0)) es

exact_fields : (es : List (List ℕ × Known)) (fs : List (List ℕ × Sort))
    → slice_cmp field_cmp (forget_fields es) fs ≡ Equal → forget_fields es ≡ fs
exact_fields [] [] h = refl
exact_fields [] (f ∷ fs) h = cc
exact_fields (e ∷ es) [] h = cc
exact_fields (e ∷ es) (f ∷ fs) h =
    let p = ordering_then_equal _ _ h in
    let q = ordering_then_equal _ _ p.0 in
    let name : e.0 ≡ f.0 = exact_bytes _ _ q.0 in
    let one_sort : e.1.0 ≡ f.1 = e.1.1 f.1 q.1 in
    let rest : forget_fields es ≡ fs = exact_fields es fs p.1 in
    let first : ◌≡◌ {A = List ℕ × Sort} (e.0, e.1.0) f = λ i. (name i, one_sort i) in
    cc

exact_uids : (us vs : List Uid) → slice_cmp uid_cmp us vs ≡ Equal → us ≡ vs
exact_uids [] [] h = refl
exact_uids [] (v ∷ vs) h = cc
exact_uids (u ∷ us) [] h = cc
exact_uids (u ∷ us) (v ∷ vs) h =
    let p = ordering_then_equal _ _ h in
    let first : u ≡ v = uid_cmp_level u v p.0 in
    let rest : us ≡ vs = exact_uids us vs p.1 in
    cc

exact_entity : (m n : List ℕ) (us vs : List Uid) → by_kind (s.Entity m us) (s.Entity n vs) ≡ Equal
    → ◌≡◌ {A = Sort-F Sort} (s.Entity m us) (s.Entity n vs)
exact_entity m n us vs h =
    let p = ordering_then_equal _ _ h in
    let name : m ≡ n = exact_bytes m n p.0 in
    let choices : us ≡ vs = exact_uids us vs p.1 in
    λ i. s.Entity (name i) (choices i)

abbrev IsExactLevel : Sort-F Sort → Type 0
IsExactLevel x = (y : Sort-F Sort) → by_kind x y ≡ Equal → x ≡ y

inner : (y : Sort-F Known) → IsExactLevel (map-Sort Known Sort (λ e. e.0) y)
inner s.Bool s.Bool h = refl
inner s.Bool b h = absurd cc
inner s.Long s.Long h = refl
inner s.Long b h = absurd cc
inner s.String s.String h = refl
inner s.String b h = absurd cc
inner s.Decimal s.Decimal h = refl
inner s.Decimal b h = absurd cc
inner s.Ip s.Ip h = refl
inner s.Ip b h = absurd cc
inner (s.Entity m us) (s.Entity n vs) h = exact_entity m n us vs h
inner (s.Entity m us) b h = absurd cc
inner (s.Set a) (s.Set b) h = ap s.Set (a.1 b h)
inner (s.Set a) b h = absurd cc
inner (s.Record a) (s.Record b) h = ap s.Record (exact_fields a b h)
inner (s.Record a) b h = absurd cc
inner (s.Option a) (s.Option b) h = ap s.Option (a.1 b h)
inner (s.Option a) b h = absurd cc

from_level : (x : Sort-F Sort) → IsExactLevel x → IsExact (roll-Sort x)
from_level x h b e =
    let level : by_kind x (out-Sort b) ≡ Equal = ap (λ z. by_kind z (out-Sort b)) (sym (out-roll-Sort x))
    ∙ sym (sort_cmp_by_kind (roll-Sort x) b) ∙ e in
    ap roll-Sort (h (out-Sort b) level) ∙ roll-out-Sort b

pub sort_cmp_exact : CmpEqualImpliesEq sort_cmp
sort_cmp_exact = ind-Sort IsExact (λ x y e. from_level x (subst IsExactLevel e (inner y)))

pub sort_cmp_level : (a b : Sort) → sort_cmp a b ≡ Equal ↔ a ≡ b
sort_cmp_level a b = (
  sort_cmp_exact a b,
  λ e. subst (λ (z : Sort). sort_cmp a z ≡ Equal) e
      (tied_itself sort_cmp_total a),
)

-- ---- sorts that `==` finds equal

pub sort_eq_decides : (a b : Sort) → equality.eq a b ≡ true ↔ a ≡ b
unfolding sort_cmp
sort_eq_decides a b = (
  λ h. sort_cmp_exact a b (is_eq_true (sort_cmp a b) (sym (matches_eq-law a b) ∙ h)),
  λ e. matches_eq-law a b ∙ ap is_eq ((sort_cmp_level a b).1 e),
)
