-- A value that fits the sort of a type conforms to the type.
use Rattle.std.proofs.Common.{◌≡◌, ◌||◌, ℕ, List, [], ◌∷◌, map, Bool, true, false, Option, Some, None, refl, sym, ap, ◌∙◌, subst}
use Rattle.std.specs.Cmp.Derive.{both_true}
use Rattle.std.specs.List.{AllByRecursion, list_all, list_any}
use Rattle.std.specs.Str.{bytes_eq}
use Rattle.sc_laws.proofs.BoolLaws.{and_first, and_second}
use Rattle.sc_schema.specs.declared.ty.EntityKind.{EntityKind}
use Rattle.sc_schema.specs.declared.ty.Presence.{Presence}
use Rattle.sc_schema.specs.declared.ty.Presence.TheVariants.{Required, Optional}
use Rattle.sc_schema.specs.declared.ty.Ty.{Ty, Ty-F, roll-Ty, map-Ty, ind-Ty}
use Rattle.sc_schema.specs.declared.ty.Ty.TheOpen as t
use Rattle.sc_schema.specs.Declarations.{Declarations}
use Rattle.sc_schema.specs.Lawful.{IsTypeOf, IsTypeLevel}
use Rattle.sc_schema.proofs.EveryTypeLaws as of_type
use Rattle.sc_values.specs.declared.value.Value.{Value, Value-F, out-Value}
use Rattle.sc_values.specs.declared.value.Value.TheOpen as v
use Rattle.sc_values.specs.Records.{Fields, field}
use Rattle.sc_world.specs.Conforms.{Test, is_entity_of, is_record_of, passes, conforms, conforms_step}
use Rattle.sc_sorts.specs.declared.sort.Sort.{Sort}
use Rattle.sc_sorts.specs.declared.sort.Sort.TheVariants as sort
use Rattle.sc_sorts.specs.declared.sort.Sort.TheVariants.{rolls-Bool, rolls-Long, rolls-String, rolls-Decimal, rolls-Ip, rolls-Entity, rolls-Set, rolls-Record}
use Rattle.sc_sorts.specs.declared.sort.Sort.TheOpen as s
use Rattle.sc_sorts.specs.Entities.{uids_of}
use Rattle.sc_sorts.specs.OfTypes.{sort_of, with_presence}
use Rattle.sc_term_laws.specs.Fitting.{Seen, fits_step, fits}
use Rattle.sc_term_laws.specs.Fitting as fit
use Rattle.sc_term_laws.proofs.DefaultTypeLaws.{no_option}
use Rattle.sc_term_laws.proofs.FitLaws.{kind_of_uids, seen, seen_fits, seen_Option, seen_option, sort_roll, sights_of, conforms_roll, set_so}
use Rattle.sc_term_laws.proofs.FitVals.{fits_at}

module _ (d : Declarations) where
  abbrev IsBack : Ty → Type 0
  IsBack type = IsTypeOf d type → (x : Value) → fits (sort_of type) x ≡ true → conforms type x ≡ true

  abbrev Known : Type 0
  Known = (type : Ty) × IsBack type

  abbrev Shape : Type 0
  Shape = List (List ℕ × Presence × Known)

  abbrev Attributes : Type 0
  Attributes = List (List ℕ × Presence × Ty)

  abbrev bare : Shape → Attributes
  bare bs = map (λ (a : List ℕ × Presence × Known). (a.0, a.1, a.2.0)) bs

  abbrev sorts_in : Attributes → List (List ℕ × Sort)
  sorts_in bs = map (λ (f : List ℕ × Presence × Sort). (f.0, with_presence f.1 f.2)) (map (λ (a : List ℕ × Presence × Ty). (a.0, a.1, sort_of a.2)) bs)

  abbrev tests : Attributes → List (List ℕ × Presence × Test)
  tests bs = map (λ (a : List ℕ × Presence × Ty). (a.0, a.1, conforms a.2)) bs

  passes_back : (p : Presence) (k : Known) (o : Option Value) → IsTypeOf d k.0 → fit.passes (seen (with_presence p (sort_of k.0))) o ≡ true → passes p (conforms k.0) o ≡ true
  passes_back Required k None l h = let both : true ≡ false = sym h ∙ seen_option (sort_of k.0) ∙ no_option k.0 in absurd cc
  passes_back Required k (Some x) l h = k.1 l x (sym (seen_fits (sort_of k.0) x) ∙ h)
  passes_back Optional k None l h = refl
  passes_back Optional k (Some x) l h = k.1 l x (sym (ap (λ (z : Seen). z.1 x) (seen_Option (sort_of k.0))) ∙ h)

  each_back : (bs : Shape) (fs : Fields) → AllByRecursion (λ (a : List ℕ × Presence × Ty). IsTypeOf d a.2) (bare bs)
      → list_all (λ (a : List ℕ × Seen). fit.passes a.1 (field a.0 fs)) (sights_of (sorts_in (bare bs))) ≡ true
      → list_all (λ (a : List ℕ × Presence × Test). passes a.1 a.2 (field a.0 fs)) (tests (bare bs)) ≡ true
  each_back [] fs l h = refl
  each_back (a ∷ bs) fs l h = both_true (passes_back a.1 a.2 (field a.0 fs) l.0 (and_first _ _ h)) (each_back bs fs l.1 (and_second (fit.passes (seen (with_presence a.1 (sort_of a.2.0))) (field a.0 fs)) _ h))

  same_names : (bs : Shape) (name : List ℕ) → list_any (λ (a : List ℕ × Seen). bytes_eq name a.0) (sights_of (sorts_in (bare bs)))
      ≡ list_any (λ (a : List ℕ × Presence × Test). bytes_eq name a.0) (tests (bare bs))
  same_names [] name = refl
  same_names (a ∷ bs) name = ap (λ (b : Bool). bytes_eq name a.0 || b) (same_names bs name)

  known_back : (bs : Shape) (fs : Fields)
      → list_all (λ (f : List ℕ × Value). list_any (λ (a : List ℕ × Seen). bytes_eq f.0 a.0) (sights_of (sorts_in (bare bs)))) fs ≡ true
      → list_all (λ (f : List ℕ × Value). list_any (λ (a : List ℕ × Presence × Test). bytes_eq f.0 a.0) (tests (bare bs))) fs ≡ true
  known_back bs [] h = refl
  known_back bs (f ∷ fs) h =
      both_true (sym (same_names bs f.0) ∙ and_first _ _ h)
      (known_back bs fs (and_second (list_any (λ (a : List ℕ × Seen). bytes_eq f.0 a.0) (sights_of (sorts_in (bare bs)))) _ h))

  record_back : (bs : Shape) (x : Value-F Value) → AllByRecursion (λ (a : List ℕ × Presence × Ty). IsTypeOf d a.2) (bare bs)
      → fit.is_record_of (sights_of (sorts_in (bare bs))) x ≡ true → is_record_of (tests (bare bs)) x ≡ true
  record_back bs (v.Record fs) l h = both_true (each_back bs fs l (and_first _ _ h)) (known_back bs fs (and_second _ _ h))
  record_back bs _ l h = absurd cc

  -- ---- by the type's kind

  back_at : (y : Ty-F Ty) (k : Sort) (q : Test) → sort_of (roll-Ty y) ≡ k → fits k ≡ q
      → (IsTypeOf d (roll-Ty y) → (x : Value) → q x ≡ true → conforms_step (map-Ty Ty Test conforms y) x ≡ true) → IsBack (roll-Ty y)
  back_at y k q e f g l x h =
      ap (λ (z : Test). z x) (conforms_roll y) ∙ g l x (sym (ap (λ (z : Test). z x) f) ∙ sym (ap (λ (z : Sort). fits z x) e) ∙ h)

  inner : (y : Ty-F Known) → IsBack (roll-Ty (map-Ty Known Ty (λ e. e.0) y))
  inner t.True = λ l. absurd (of_type.every_level (IsTypeLevel d) t.True l)
  inner t.False = λ l. absurd (of_type.every_level (IsTypeLevel d) t.False l)
  inner t.Bool = back_at t.Bool sort.Bool (fits_step s.Bool) (sort_roll t.Bool) (fits_at sort.Bool s.Bool rolls-Bool) (λ l x h. h)
  inner t.Long = back_at t.Long sort.Long (fits_step s.Long) (sort_roll t.Long) (fits_at sort.Long s.Long rolls-Long) (λ l x h. h)
  inner t.String = back_at t.String sort.String (fits_step s.String) (sort_roll t.String) (fits_at sort.String s.String rolls-String) (λ l x h. h)
  inner t.Decimal = back_at t.Decimal sort.Decimal (fits_step s.Decimal) (sort_roll t.Decimal) (fits_at sort.Decimal s.Decimal rolls-Decimal) (λ l x h. h)
  inner t.Ip = back_at t.Ip sort.Ip (fits_step s.Ip) (sort_roll t.Ip) (fits_at sort.Ip s.Ip rolls-Ip) (λ l x h. h)
  inner (t.Entity kind) =
      let us = uids_of kind in
      back_at (t.Entity kind) (sort.Entity kind.name us) (fits_step (s.Entity kind.name us)) (sort_roll (t.Entity kind)) (fits_at (sort.Entity kind.name us) (s.Entity kind.name us) (rolls-Entity kind.name us))
      (λ l x h. ap (λ (k : EntityKind). is_entity_of k (out-Value x)) (sym (kind_of_uids kind)) ∙ h)
  inner (t.Set a) =
      let k = sort_of a.0 in
      back_at (t.Set a.0) (sort.Set k) (fits_step (s.Set (seen k))) (sort_roll (t.Set a.0)) (fits_at (sort.Set k) (s.Set k) (rolls-Set k))
      (λ l x h. set_so (seen k).1 (conforms a.0) (λ z e. a.1 (of_type.every_member (IsTypeLevel d) a.0 l) z (sym (seen_fits k z) ∙ e)) (out-Value x) h)
  inner (t.Record bs) =
      let fields = sorts_in (bare bs) in
      back_at (t.Record (bare bs)) (sort.Record fields) (fits_step (s.Record (sights_of fields))) (sort_roll (t.Record (bare bs))) (fits_at (sort.Record fields) (s.Record fields) (rolls-Record fields))
      (λ l x h. record_back bs (out-Value x) (of_type.every_field (IsTypeLevel d) (bare bs) l) h)

  pub fits_conforms : (type : Ty) → IsTypeOf d type → (x : Value) → fits (sort_of type) x ≡ true → conforms type x ≡ true
  fits_conforms = ind-Ty IsBack (λ x y e. subst (λ (z : Ty-F Ty). IsBack (roll-Ty z)) e (inner y))
