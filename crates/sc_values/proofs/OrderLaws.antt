-- The order that `Ord` gives is the one by kind and then by what is held; it is total, and only equal values are level in it.
use Rattle.std.proofs.Common.{◌≡◌, ◌↔◌, ℕ, Bool, true, false, List, [], ◌∷◌, map, refl, sym, ap, ◌∙◌, subst}
use Rattle.std.specs.declared.cmp.Ordering.TheVariants.{Equal}
use Rattle.std.specs.Ordering.{ordering_then, nat_cmp, bool_cmp}
use Rattle.std.specs.Cmp.{IsTotalOrder}
use Rattle.std.specs.Cmp.Lexicographic.{slice_cmp}
use Rattle.std.proofs.lemmas.Cmp.{tied_itself}
use Rattle.std.proofs.lemmas.Map.Lookups.{CmpEqualImpliesEq, exact_unsigned, exact_signed, exact_bytes}
use Rattle.sc_lists.proofs.OrderingLaws.{ordering_then_equal}
use Rattle.sc_names.proofs.UidLaws.{uid_cmp_level}
use Rattle.sc_ip.specs.declared.ip.Ip.{Ip}
use Rattle.sc_ip.specs.declared.ip.Ip.TheVariants.{V4, V6}
use Rattle.sc_values.specs.declared.value.Value.{Value, Value-F, out-Value, roll-Value, ind-Value, map-Value, out-roll-Value, roll-out-Value}
use Rattle.sc_values.specs.declared.value.Value.TheOpen as v
use Rattle.sc_values.specs.contracts.value.ValueOrd.TheImpl.Laws.{is, unfolded, total-law}
use Rattle.sc_values.specs.Order.{value_cmp, field_cmp, ip_cmp, by_kind}

pub value_cmp_total : IsTotalOrder value_cmp
unfolding value_cmp
value_cmp_total = total-law

-- ---- by kind

unfolded_level : (a b : Value) (x y : Value-F Value) → out-Value a ≡ x → out-Value b ≡ y → unfolded a b ≡ by_kind x y
unfolding value_cmp
unfolded_level a b (v.Bool m) (v.Bool n) e f = rw (e, f) refl
unfolded_level a b (v.Bool m) (v.Long n) e f = rw (e, f) refl
unfolded_level a b (v.Bool m) (v.String n) e f = rw (e, f) refl
unfolded_level a b (v.Bool m) (v.Entity n) e f = rw (e, f) refl
unfolded_level a b (v.Bool m) (v.Set n) e f = rw (e, f) refl
unfolded_level a b (v.Bool m) (v.Record n) e f = rw (e, f) refl
unfolded_level a b (v.Bool m) (v.Decimal n) e f = rw (e, f) refl
unfolded_level a b (v.Bool m) (v.Ip n) e f = rw (e, f) refl
unfolded_level a b (v.Long m) (v.Bool n) e f = rw (e, f) refl
unfolded_level a b (v.Long m) (v.Long n) e f = rw (e, f) refl
unfolded_level a b (v.Long m) (v.String n) e f = rw (e, f) refl
unfolded_level a b (v.Long m) (v.Entity n) e f = rw (e, f) refl
unfolded_level a b (v.Long m) (v.Set n) e f = rw (e, f) refl
unfolded_level a b (v.Long m) (v.Record n) e f = rw (e, f) refl
unfolded_level a b (v.Long m) (v.Decimal n) e f = rw (e, f) refl
unfolded_level a b (v.Long m) (v.Ip n) e f = rw (e, f) refl
unfolded_level a b (v.String m) (v.Bool n) e f = rw (e, f) refl
unfolded_level a b (v.String m) (v.Long n) e f = rw (e, f) refl
unfolded_level a b (v.String m) (v.String n) e f = rw (e, f) refl
unfolded_level a b (v.String m) (v.Entity n) e f = rw (e, f) refl
unfolded_level a b (v.String m) (v.Set n) e f = rw (e, f) refl
unfolded_level a b (v.String m) (v.Record n) e f = rw (e, f) refl
unfolded_level a b (v.String m) (v.Decimal n) e f = rw (e, f) refl
unfolded_level a b (v.String m) (v.Ip n) e f = rw (e, f) refl
unfolded_level a b (v.Entity m) (v.Bool n) e f = rw (e, f) refl
unfolded_level a b (v.Entity m) (v.Long n) e f = rw (e, f) refl
unfolded_level a b (v.Entity m) (v.String n) e f = rw (e, f) refl
unfolded_level a b (v.Entity m) (v.Entity n) e f = rw (e, f) refl
unfolded_level a b (v.Entity m) (v.Set n) e f = rw (e, f) refl
unfolded_level a b (v.Entity m) (v.Record n) e f = rw (e, f) refl
unfolded_level a b (v.Entity m) (v.Decimal n) e f = rw (e, f) refl
unfolded_level a b (v.Entity m) (v.Ip n) e f = rw (e, f) refl
unfolded_level a b (v.Set m) (v.Bool n) e f = rw (e, f) refl
unfolded_level a b (v.Set m) (v.Long n) e f = rw (e, f) refl
unfolded_level a b (v.Set m) (v.String n) e f = rw (e, f) refl
unfolded_level a b (v.Set m) (v.Entity n) e f = rw (e, f) refl
unfolded_level a b (v.Set m) (v.Set n) e f = rw (e, f) refl
unfolded_level a b (v.Set m) (v.Record n) e f = rw (e, f) refl
unfolded_level a b (v.Set m) (v.Decimal n) e f = rw (e, f) refl
unfolded_level a b (v.Set m) (v.Ip n) e f = rw (e, f) refl
unfolded_level a b (v.Record m) (v.Bool n) e f = rw (e, f) refl
unfolded_level a b (v.Record m) (v.Long n) e f = rw (e, f) refl
unfolded_level a b (v.Record m) (v.String n) e f = rw (e, f) refl
unfolded_level a b (v.Record m) (v.Entity n) e f = rw (e, f) refl
unfolded_level a b (v.Record m) (v.Set n) e f = rw (e, f) refl
unfolded_level a b (v.Record m) (v.Record n) e f = rw (e, f) refl
unfolded_level a b (v.Record m) (v.Decimal n) e f = rw (e, f) refl
unfolded_level a b (v.Record m) (v.Ip n) e f = rw (e, f) refl
unfolded_level a b (v.Decimal m) (v.Bool n) e f = rw (e, f) refl
unfolded_level a b (v.Decimal m) (v.Long n) e f = rw (e, f) refl
unfolded_level a b (v.Decimal m) (v.String n) e f = rw (e, f) refl
unfolded_level a b (v.Decimal m) (v.Entity n) e f = rw (e, f) refl
unfolded_level a b (v.Decimal m) (v.Set n) e f = rw (e, f) refl
unfolded_level a b (v.Decimal m) (v.Record n) e f = rw (e, f) refl
unfolded_level a b (v.Decimal m) (v.Decimal n) e f = rw (e, f) refl
unfolded_level a b (v.Decimal m) (v.Ip n) e f = rw (e, f) refl
unfolded_level a b (v.Ip m) (v.Bool n) e f = rw (e, f) refl
unfolded_level a b (v.Ip m) (v.Long n) e f = rw (e, f) refl
unfolded_level a b (v.Ip m) (v.String n) e f = rw (e, f) refl
unfolded_level a b (v.Ip m) (v.Entity n) e f = rw (e, f) refl
unfolded_level a b (v.Ip m) (v.Set n) e f = rw (e, f) refl
unfolded_level a b (v.Ip m) (v.Record n) e f = rw (e, f) refl
unfolded_level a b (v.Ip m) (v.Decimal n) e f = rw (e, f) refl
unfolded_level a b (v.Ip (V4 m p)) (v.Ip (V4 n q)) e f = rw (e, f) refl
unfolded_level a b (v.Ip (V4 m p)) (v.Ip (V6 n q)) e f = rw (e, f) refl
unfolded_level a b (v.Ip (V6 m p)) (v.Ip (V4 n q)) e f = rw (e, f) refl
unfolded_level a b (v.Ip (V6 m p)) (v.Ip (V6 n q)) e f = rw (e, f) refl

pub value_cmp_by_kind : (a b : Value) → value_cmp a b ≡ by_kind (out-Value a) (out-Value b)
unfolding value_cmp
value_cmp_by_kind a b = is a b ∙ unfolded_level a b (out-Value a) (out-Value b) refl refl

-- ---- only equal values are level

exact_bool : (a b : Bool) → bool_cmp a b ≡ Equal → a ≡ b
exact_bool true true h = refl
exact_bool true false h = cc
exact_bool false true h = cc
exact_bool false false h = refl

abbrev IsExact : Value → Type 0
IsExact a = (b : Value) → value_cmp a b ≡ Equal → a ≡ b

abbrev Known : Type 0
Known = (a : Value) × IsExact a

exact_members : (es : List Known) (ys : List Value) → slice_cmp value_cmp (map (λ (e : Known). e.0) es) ys ≡ Equal → map (λ (e : Known). e.0) es ≡ ys
exact_members [] [] h = refl
exact_members [] (y ∷ ys) h = cc
exact_members (e ∷ es) [] h = cc
exact_members (e ∷ es) (y ∷ ys) h =
    let p = ordering_then_equal _ _ h in
    let first : e.0 ≡ y = e.1 y p.0 in
    let rest : map (λ (e : Known). e.0) es ≡ ys = exact_members es ys p.1 in
    cc

abbrev forget_fields : List (List ℕ × Known) → List (List ℕ × Value)
forget_fields es = map (λ (e : List ℕ × Known). (e.0, e.1.0)) es

exact_fields : (es : List (List ℕ × Known)) (fs : List (List ℕ × Value)) → slice_cmp field_cmp (forget_fields es) fs ≡ Equal → forget_fields es ≡ fs
exact_fields [] [] h = refl
exact_fields [] (f ∷ fs) h = cc
exact_fields (e ∷ es) [] h = cc
exact_fields (e ∷ es) (f ∷ fs) h =
    let p = ordering_then_equal _ _ h in
    let q = ordering_then_equal _ _ p.0 in
    let name : e.0 ≡ f.0 = exact_bytes _ _ q.0 in
    let value : e.1.0 ≡ f.1 = e.1.1 f.1 q.1 in
    let rest : forget_fields es ≡ fs = exact_fields es fs p.1 in
    let first : ◌≡◌ {A = List ℕ × Value} (e.0, e.1.0) f = λ i. (name i, value i) in
    cc

both_numbers : (m n p q : ℕ) → ordering_then (nat_cmp m n) (nat_cmp p q) ≡ Equal → (m ≡ n) × (p ≡ q)
both_numbers m n p q h = let parts = ordering_then_equal (nat_cmp m n) (nat_cmp p q) h in (exact_unsigned m n parts.0, exact_unsigned p q parts.1)

exact_ip : (a b : Ip) → ip_cmp a b ≡ Equal → a ≡ b
exact_ip (V4 m p) (V4 n q) h = let same = both_numbers m n p q h in λ i. V4 (same.0 i) (same.1 i)
exact_ip (V4 m p) (V6 n q) h = cc
exact_ip (V6 m p) (V4 n q) h = cc
exact_ip (V6 m p) (V6 n q) h = let same = both_numbers m n p q h in λ i. V6 (same.0 i) (same.1 i)

abbrev IsExactLevel : Value-F Value → Type 0
IsExactLevel x = (y : Value-F Value) → by_kind x y ≡ Equal → x ≡ y

inner : (y : Value-F Known) → IsExactLevel (map-Value Known Value (λ e. e.0) y)
inner (v.Bool a) (v.Bool b) h = ap v.Bool (exact_bool a b h)
inner (v.Bool a) b h = absurd cc
inner (v.Long a) (v.Long b) h = ap v.Long (exact_signed a b h)
inner (v.Long a) b h = absurd cc
inner (v.String a) (v.String b) h = ap v.String (exact_bytes a b h)
inner (v.String a) b h = absurd cc
inner (v.Entity a) (v.Entity b) h = ap v.Entity (uid_cmp_level a b h)
inner (v.Entity a) b h = absurd cc
inner (v.Set a) (v.Set b) h = ap v.Set (exact_members a b h)
inner (v.Set a) b h = absurd cc
inner (v.Record a) (v.Record b) h = ap v.Record (exact_fields a b h)
inner (v.Record a) b h = absurd cc
inner (v.Decimal a) (v.Decimal b) h = ap v.Decimal (exact_signed a b h)
inner (v.Decimal a) b h = absurd cc
inner (v.Ip a) (v.Ip b) h = ap v.Ip (exact_ip a b h)
inner (v.Ip a) b h = absurd cc

from_level : (x : Value-F Value) → IsExactLevel x → IsExact (roll-Value x)
from_level x h b e =
    let level : by_kind x (out-Value b) ≡ Equal = ap (λ z. by_kind z (out-Value b)) (sym (out-roll-Value x)) ∙ sym (value_cmp_by_kind (roll-Value x) b) ∙ e in
    ap roll-Value (h (out-Value b) level) ∙ roll-out-Value b

pub value_cmp_exact : CmpEqualImpliesEq value_cmp
value_cmp_exact = ind-Value IsExact (λ x y e. from_level x (subst IsExactLevel e (inner y)))

pub value_cmp_level : (a b : Value) → value_cmp a b ≡ Equal ↔ a ≡ b
value_cmp_level a b = (value_cmp_exact a b, λ e. subst (λ (z : Value). value_cmp a z ≡ Equal) e (tied_itself value_cmp_total a))
