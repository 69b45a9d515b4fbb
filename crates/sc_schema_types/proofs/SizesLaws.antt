-- An outline tells what decides whether a type may stand where it does.
use Rattle.std.proofs.Common.{◌≡◌, ◌+◌, ℕ, List, [], ◌∷◌, map, max, min, Bool, true, false, cond, Option, Some, None, nat_lt, refl, sym, ap, ◌∙◌, subst, arith, sum_by}
use Rattle.std.specs.List.{fold}
use Rattle.std.specs.Cmp.{both_ways}
use Rattle.std.proofs.lemmas.Bool.{ltb-true, ltb-false, lt-ltb, or_parts}
use Rattle.std.proofs.lemmas.List.Sums.{sum_by-cons}
use Rattle.sc_schema.specs.declared.ty.Presence.{Presence}
use Rattle.sc_schema.specs.declared.ty.Ty.{Ty, Ty-F, roll-Ty, map-Ty, ind-Ty, fold-roll-Ty, out-roll-Ty}
use Rattle.sc_schema.specs.declared.ty.Ty.TheOpen as t
use Rattle.sc_schema_types.specs.declared.outline.Outline.{Outline}
use Rattle.sc_schema_types.specs.declared.wanted.Wanted.{Wanted}
use Rattle.sc_schema_types.specs.declared.wanted.Wanted.TheVariants.{AnyType, RecordType}
use Rattle.sc_schema_syntax.specs.declared.fault.SchemaFault.{SchemaFault}
use Rattle.sc_schema_syntax.specs.declared.fault.SchemaFault.TheVariants.{NotRecord, TypeTooLarge}
use Rattle.sc_schema_types.specs.Faults.{size_fault, type_fault}
use Rattle.sc_schema.specs.Sizes.{deepest, levels_step, levels, nodes_step, nodes, max_levels, max_nodes, IsSmall}
use Rattle.sc_schema.proofs.SizesLaws.{levels-roll, nodes-roll}
use Rattle.sc_schema_types.specs.Sizes.{is_too_large, is_record_level, is_record}
use Rattle.sc_schema_types.specs.Tables.{around, beside, outline_step, outline, outline_fault}

pub outline-roll : (x : Ty-F Ty) → outline (roll-Ty x) ≡ outline_step (map-Ty Ty Outline outline x)
unfolding outline
outline-roll x = fold-roll-Ty Outline outline_step x

-- an outline by whether a type is a record type, its levels and its nodes
abbrev pub bounded : Bool → ℕ → ℕ → Outline
bounded b l n = record { is_record = b; levels = min l (max_levels + 1); nodes = min n (max_nodes + 1) }

same_bounds : (b : Bool) (l m n p : ℕ) → l ≡ m → n ≡ p → ◌≡◌ {A = Outline} (record { is_record = b; levels = l; nodes = n }) (record { is_record = b; levels = m; nodes = p })
same_bounds b l m n p e f = λ i. record { is_record = b; levels = e i; nodes = f i }

around_bounded : (b c : Bool) (l n : ℕ) → around b (bounded c l n) ≡ bounded b (l + 1) (n + 1)
around_bounded b c l n = same_bounds b _ _ _ _ (omega arith) (omega arith)

beside_bounded : (b c : Bool) (l n m p : ℕ) → beside (bounded b l n) (bounded c m p) ≡ bounded false (max l m) (n + p)
beside_bounded b c l n m p = same_bounds false _ _ _ _ (omega arith) (omega arith)

-- ---- the outline of a type

abbrev IsBounded : Ty → Type 0
IsBounded u = outline u ≡ bounded (is_record u) (levels u) (nodes u)

abbrev Known : Type 0
Known = (u : Ty) × IsBounded u

abbrev KnownFields : Type 0
KnownFields = List (List ℕ × Presence × Known)

abbrev forget : Ty-F Known → Ty-F Ty
forget = map-Ty Known Ty (λ e. e.0)

abbrev with_each : {A : Type 0} → (Ty → A) → KnownFields → List (List ℕ × Presence × A)
with_each {A} f es = map (λ (a : List ℕ × Presence × Ty). (a.0, a.1, f a.2)) (map (λ (e : List ℕ × Presence × Known). (e.0, e.1, e.2.0)) es)

abbrev sum_of : List (List ℕ × Presence × ℕ) → ℕ
sum_of = sum_by (λ (f : List ℕ × Presence × ℕ). f.2)

fields_bounded : (es : KnownFields) (l n : ℕ) → fold (λ o (f : List ℕ × Presence × Outline). beside o f.2) (bounded false l n) (with_each outline es) ≡ bounded false (max l (deepest (with_each levels es))) (n + sum_of (with_each nodes es))
fields_bounded [] l n = same_bounds false _ _ _ _ (omega arith) (omega arith)
fields_bounded (e ∷ es) l n =
    let sums : sum_of (with_each nodes (e ∷ es)) ≡ nodes e.2.0 + sum_of (with_each nodes es) = sum_by-cons (λ (f : List ℕ × Presence × ℕ). f.2) (e.0, e.1, nodes e.2.0) (with_each nodes es) in
    ap (λ (o : Outline). fold (λ p (f : List ℕ × Presence × Outline). beside p f.2) o (with_each outline es)) (ap (beside (bounded false l n)) e.2.1 ∙ beside_bounded false (is_record e.2.0) l n (levels e.2.0) (nodes e.2.0))
    ∙ fields_bounded es (max l (levels e.2.0)) (n + nodes e.2.0)
    ∙ same_bounds false _ _ _ _ (omega arith) (omega arith)

bounded_step : (y : Ty-F Known) → outline_step (map-Ty Ty Outline outline (forget y)) ≡ bounded (is_record_level (forget y)) (levels_step (map-Ty Ty ℕ levels (forget y))) (nodes_step (map-Ty Ty ℕ nodes (forget y)))
bounded_step t.True = refl
bounded_step t.False = refl
bounded_step t.Bool = refl
bounded_step t.Long = refl
bounded_step t.String = refl
bounded_step t.Decimal = refl
bounded_step t.Ip = refl
bounded_step (t.Entity name) = refl
bounded_step (t.Set e) = ap (around false) e.1 ∙ around_bounded false (is_record e.0) (levels e.0) (nodes e.0)
bounded_step (t.Record es) = ap (around true) (fields_bounded es 0 0) ∙ around_bounded true false (max 0 (deepest (with_each levels es))) (0 + sum_of (with_each nodes es)) ∙ same_bounds true _ _ _ _ (omega arith) (omega arith)

bounded_layer : (y : Ty-F Known) → IsBounded (roll-Ty (forget y))
bounded_layer y =
    let x : Ty-F Ty = forget y in
    outline-roll x
    ∙ bounded_step y
    ∙ ap (λ (z : Ty-F Ty). bounded (is_record_level z) (levels_step (map-Ty Ty ℕ levels x)) (nodes_step (map-Ty Ty ℕ nodes x))) (sym (out-roll-Ty x))
    ∙ ap (λ (k : ℕ). bounded (is_record (roll-Ty x)) k (nodes_step (map-Ty Ty ℕ nodes x))) (sym (levels-roll x))
    ∙ ap (bounded (is_record (roll-Ty x)) (levels (roll-Ty x))) (sym (nodes-roll x))

pub outline_bounded : (u : Ty) → outline u ≡ bounded (is_record u) (levels u) (nodes u)
outline_bounded = ind-Ty IsBounded (λ x y e. subst (λ (z : Ty-F Ty). IsBounded (roll-Ty z)) e (bounded_layer y))

-- ---- its fault

up_to_bound : (k n : ℕ) → nat_lt k (min n (k + 1)) ≡ nat_lt k n
up_to_bound k n = both_ways (nat_lt k (min n (k + 1))) (nat_lt k n)
    (λ h. lt-ltb k n (omega (arith, ltb-true k (min n (k + 1)) h)))
    (λ h. lt-ltb k (min n (k + 1)) (omega (arith, ltb-true k n h)))

fault_bounded : (wanted : Wanted) (u : Ty) → outline_fault wanted (bounded (is_record u) (levels u) (nodes u)) ≡ type_fault wanted u
fault_bounded AnyType u = rw (up_to_bound max_levels (levels u), up_to_bound max_nodes (nodes u)) refl
fault_bounded RecordType u = rw (up_to_bound max_levels (levels u), up_to_bound max_nodes (nodes u)) refl

pub fault_by_outline : (wanted : Wanted) (u : Ty) → outline_fault wanted (outline u) ≡ type_fault wanted u
fault_by_outline wanted u = ap (outline_fault wanted) (outline_bounded u) ∙ fault_bounded wanted u

-- ---- a type without a fault

small : (u : Ty) → is_too_large u ≡ false → IsSmall u
small u h =
    let parts = or_parts (nat_lt max_levels (levels u)) (nat_lt max_nodes (nodes u)) h in
    record { depth = ltb-false max_levels (levels u) parts.0; size = ltb-false max_nodes (nodes u) parts.1 }

small_by_test : (b : Bool) → cond b (Some (TypeTooLarge [])) None ≡ None → b ≡ false
small_by_test true h = absurd cc
small_by_test false h = refl

fault_by_test : (b : Bool) (o : Option SchemaFault) (fault : SchemaFault) → cond b o (Some fault) ≡ None → o ≡ None
fault_by_test true o fault h = h
fault_by_test false o fault h = absurd cc

pub small_without_fault : (wanted : Wanted) (u : Ty) → type_fault wanted u ≡ None → IsSmall u
small_without_fault AnyType u h = small u (small_by_test (is_too_large u) h)
small_without_fault RecordType u h = small u (small_by_test (is_too_large u) (fault_by_test (is_record u) (size_fault u) (NotRecord []) h))
