-- The levels and nodes of a type, counted from the type itself down.
use Rattle.std.proofs.Common.{◌≡◌, ◌∙◌, ◌+◌, ◌≤◌, ℕ, zero, suc, List, [], ◌∷◌, map, length, Bool, true, false, nat_lt, Contains, refl, sym, ap, subst, inl, inr, arith, sum_by, append-nil}
use Rattle.std.specs.List.{flat_map}
use Rattle.std.proofs.lemmas.Bool.{ltb-true, ltb-false}
use Rattle.std.proofs.lemmas.List.{length-append}
use Rattle.std.proofs.lemmas.List.Sums.{sum_by-cons}
use Rattle.sc_lists.proofs.ListLaws.{contains_nothing, contains_split, contains_first, contains_rest}
use Rattle.sc_schema.specs.declared.ty.Presence.{Presence}
use Rattle.sc_schema.specs.declared.ty.Ty.{Ty, Ty-F, roll-Ty, out-Ty, map-Ty, ind-Ty, fold_out-Ty, out-roll-Ty}
use Rattle.sc_schema.specs.declared.ty.Ty.TheOpen as t
use Rattle.sc_schema.specs.Sizes.{deepest, levels_step, levels, nodes_step, nodes, parts_of, parts, StandsAt, whole_type, part, standing}
use Rattle.sc_schema.proofs.EveryTypeLaws.{Fields}
use Rattle.sc_schema.proofs.SizesLaws.{levels-roll}

levels-out : (u : Ty) → levels u ≡ levels_step (map-Ty Ty ℕ levels (out-Ty u))
unfolding levels
levels-out u = fold_out-Ty ℕ levels_step u

nodes-out : (u : Ty) → nodes u ≡ nodes_step (map-Ty Ty ℕ nodes (out-Ty u))
unfolding nodes
nodes-out u = fold_out-Ty ℕ nodes_step u

abbrev types_of : Fields → List Ty
types_of = map (λ (f : List ℕ × Presence × Ty). f.2)

abbrev levels_of : Fields → List (List ℕ × Presence × ℕ)
levels_of = map (λ (f : List ℕ × Presence × Ty). (f.0, f.1, levels f.2))

abbrev nodes_of : Fields → List (List ℕ × Presence × ℕ)
nodes_of = map (λ (f : List ℕ × Presence × Ty). (f.0, f.1, nodes f.2))

-- ---- no type stands lower than the levels of the whole

field_lower : (fs : Fields) (v : Ty) → Contains (types_of fs) v → levels v ≤ deepest (levels_of fs)
field_lower [] v has = absurd (contains_nothing v has)
field_lower (f ∷ fs) v has = elim (contains_split f.2 (types_of fs) v has) [
  | inl same ↦ omega (arith, ap levels same)
  | inr more ↦ omega (arith, field_lower fs v more)
]

part_lower : (y : Ty-F Ty) (v : Ty) → Contains (parts_of y) v → levels v + 1 ≤ levels_step (map-Ty Ty ℕ levels y)
part_lower (t.Set m) v has = elim (contains_split m [] v has) [
  | inl same ↦ omega (arith, ap levels same)
  | inr more ↦ absurd (contains_nothing v more)
]
part_lower (t.Record fs) v has = omega (arith, field_lower fs v has)
part_lower t.True v has = absurd (contains_nothing v has)
part_lower t.False v has = absurd (contains_nothing v has)
part_lower t.Bool v has = absurd (contains_nothing v has)
part_lower t.Long v has = absurd (contains_nothing v has)
part_lower t.String v has = absurd (contains_nothing v has)
part_lower t.Decimal v has = absurd (contains_nothing v has)
part_lower t.Ip v has = absurd (contains_nothing v has)
part_lower (t.Entity kind) v has = absurd (contains_nothing v has)

first_step : (y : Ty-F ℕ) → 1 ≤ levels_step y
first_step (t.Set m) = omega arith
first_step (t.Record fs) = omega arith
first_step t.True = omega arith
first_step t.False = omega arith
first_step t.Bool = omega arith
first_step t.Long = omega arith
first_step t.String = omega arith
first_step t.Decimal = omega arith
first_step t.Ip = omega arith
first_step (t.Entity kind) = omega arith

first_level : (u : Ty) → 1 ≤ levels u
first_level u = omega (arith, levels-out u, first_step (map-Ty Ty ℕ levels (out-Ty u)))

below_whole : (whole : Ty) {n : ℕ} {u : Ty} → StandsAt whole n u → n + levels u ≤ levels whole + 1
below_whole whole whole_type = omega arith
below_whole whole (part n u v s has) = omega (arith, below_whole whole s, part_lower (out-Ty u) v has, levels-out u)

pub level_most : (whole : Ty) (n : ℕ) (u : Ty) → StandsAt whole n u → n ≤ levels whole
level_most whole n u s = omega (arith, below_whole whole s, first_level u)

-- ---- a type stands at the last level

-- what stands in a part stands one level lower in the whole
lower : (whole m : Ty) → Contains (parts whole) m → {n : ℕ} {u : Ty} → StandsAt m n u → StandsAt whole (n + 1) u
lower whole m has whole_type = part 1 whole m whole_type has
lower whole m has (part n u v s inside) = part (n + 1) u v (lower whole m has s) inside

abbrev HasLast : Ty → Type 0
HasLast u = (v : Ty) × StandsAt u (levels u) v

abbrev Known : Type 0
Known = (u : Ty) × HasLast u

abbrev KnownFields : Type 0
KnownFields = List (List ℕ × Presence × Known)

abbrev forget : Ty-F Known → Ty-F Ty
forget = map-Ty Known Ty (λ k. k.0)

abbrev fields_of : KnownFields → Fields
fields_of = map (λ (k : List ℕ × Presence × Known). (k.0, k.1, k.2.0))

-- a field of the most levels
record HasDeepest (ks : KnownFields) : Type 0 where
  type : Ty
  last : HasLast type
  among : Contains (types_of (fields_of ks)) type
  most : levels type ≡ deepest (levels_of (fields_of ks))

deeper : (k j : List ℕ × Presence × Known) (ks : KnownFields) → HasDeepest (j ∷ ks) → (b : Bool) → nat_lt (levels k.2.0) (deepest (levels_of (fields_of (j ∷ ks)))) ≡ b → HasDeepest (k ∷ j ∷ ks)
deeper k j ks rest true e = record {
  type = rest.type;
  last = rest.last;
  among = contains_rest k.2.0 (types_of (fields_of (j ∷ ks))) rest.type rest.among;
  most = rest.most ∙ omega (arith, ltb-true (levels k.2.0) (deepest (levels_of (fields_of (j ∷ ks)))) e);
}
deeper k j ks rest false e = record {
  type = k.2.0;
  last = k.2.1;
  among = contains_first k.2.0 (types_of (fields_of (j ∷ ks)));
  most = omega (arith, ltb-false (levels k.2.0) (deepest (levels_of (fields_of (j ∷ ks)))) e);
}

deepest_field : (k : List ℕ × Presence × Known) (ks : KnownFields) → HasDeepest (k ∷ ks)
deepest_field k [] = record { type = k.2.0; last = k.2.1; among = contains_first k.2.0 []; most = omega arith }
deepest_field k (j ∷ ks) = deeper k j ks (deepest_field j ks) (nat_lt (levels k.2.0) (deepest (levels_of (fields_of (j ∷ ks))))) refl

last_itself : (x : Ty-F Ty) → levels_step (map-Ty Ty ℕ levels x) ≡ 1 → HasLast (roll-Ty x)
last_itself x one = (roll-Ty x, subst (λ n. StandsAt (roll-Ty x) n (roll-Ty x)) (sym (levels-roll x ∙ one)) whole_type)

last_in_part : (x : Ty-F Ty) (m : Ty) → Contains (parts_of x) m → HasLast m → levels m + 1 ≡ levels_step (map-Ty Ty ℕ levels x) → HasLast (roll-Ty x)
last_in_part x m has last more = (
  last.0,
  subst (λ n. StandsAt (roll-Ty x) n last.0) (more ∙ sym (levels-roll x))
      (lower (roll-Ty x) m (subst (λ (y : Ty-F Ty). Contains (parts_of y) m) (sym (out-roll-Ty x)) has) last.1),
)

last_layer : (y : Ty-F Known) → HasLast (roll-Ty (forget y))
last_layer (t.Set k) = last_in_part (t.Set k.0) k.0 (contains_first k.0 []) k.1 refl
last_layer (t.Record []) = last_itself (t.Record []) refl
last_layer (t.Record (k ∷ ks)) =
    let d = deepest_field k ks in
    last_in_part (t.Record (fields_of (k ∷ ks))) d.type d.among d.last (ap (λ n. n + 1) d.most)
last_layer t.True = last_itself t.True refl
last_layer t.False = last_itself t.False refl
last_layer t.Bool = last_itself t.Bool refl
last_layer t.Long = last_itself t.Long refl
last_layer t.String = last_itself t.String refl
last_layer t.Decimal = last_itself t.Decimal refl
last_layer t.Ip = last_itself t.Ip refl
last_layer (t.Entity kind) = last_itself (t.Entity kind) refl

pub last_level : (u : Ty) → (v : Ty) × StandsAt u (levels u) v
last_level = ind-Ty HasLast (λ x y e. subst (λ z. HasLast (roll-Ty z)) e (last_layer y))

-- ---- nodes

module _ (n : ℕ) (counted : (u : Ty) → levels u ≤ n → nodes u ≡ length (standing n u)) where
  all_counted : (fs : Fields) → deepest (levels_of fs) ≤ n → sum_by (λ (f : List ℕ × Presence × ℕ). f.2) (nodes_of fs) ≡ length (flat_map (standing n) (types_of fs))
  all_counted [] h = refl
  all_counted (f ∷ fs) h =
      let first = counted f.2 (omega (arith, h)) in
      let rest = all_counted fs (omega (arith, h)) in
      sum_by-cons (λ (g : List ℕ × Presence × ℕ). g.2) (f.0, f.1, nodes f.2) (nodes_of fs) ∙ omega (arith, first, rest, length-append (standing n f.2) (flat_map (standing n) (types_of fs)))

  counted_step : (y : Ty-F Ty) → levels_step (map-Ty Ty ℕ levels y) ≤ n + 1 → nodes_step (map-Ty Ty ℕ nodes y) ≡ length (flat_map (standing n) (parts_of y)) + 1
  counted_step (t.Set m) h = omega (arith, counted m (omega (arith, h)), ap length (append-nil (standing n m)))
  counted_step (t.Record fs) h = omega (arith, all_counted fs (omega (arith, h)))
  counted_step t.True h = refl
  counted_step t.False h = refl
  counted_step t.Bool h = refl
  counted_step t.Long h = refl
  counted_step t.String h = refl
  counted_step t.Decimal h = refl
  counted_step t.Ip h = refl
  counted_step (t.Entity kind) h = refl

pub nodes_counted : (n : ℕ) (u : Ty) → levels u ≤ n → nodes u ≡ length (standing n u)
nodes_counted zero u h = absurd (omega (arith, h, first_level u))
nodes_counted (suc n) u h = nodes-out u ∙ (counted_step n (nodes_counted n) (out-Ty u) (omega (arith, h, levels-out u)) ∙ omega arith)
