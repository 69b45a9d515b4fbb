-- What holds at every level of a resolved type holds of it and at every level of the types inside it.
use Rattle.std.proofs.Common.{◌≡◌, ℕ, List, [], ◌∷◌, map, refl, sym, ap, subst}
use Rattle.std.specs.List.{AllByRecursion}
use Rattle.sc_schema.specs.declared.ty.Presence.{Presence}
use Rattle.sc_schema.specs.declared.resolved_type.ResolvedType.{ResolvedType, ResolvedType-F, roll-ResolvedType, map-ResolvedType, every-ResolvedType, every_made-ResolvedType}
use Rattle.sc_schema.specs.declared.resolved_type.ResolvedType.TheVariants as type
use Rattle.sc_schema.specs.declared.resolved_type.ResolvedType.TheVariants.{rolls-Boolean, rolls-Long, rolls-String, rolls-Decimal, rolls-Ip, rolls-Entity, rolls-Set, rolls-Record, rolls-Common}
use Rattle.sc_schema.specs.declared.resolved_type.ResolvedType.TheOpen as t

abbrev pub Fields : Type 0
Fields = List (List ℕ × Presence × ResolvedType)

module _ (P : ResolvedType-F ResolvedType → Type 0) where
  abbrev Held : Type 0
  Held = (x : ResolvedType) × every-ResolvedType P x

  abbrev forget : ResolvedType-F Held → ResolvedType-F ResolvedType
  forget = map-ResolvedType Held ResolvedType (λ e. e.0)

  made : (y : ResolvedType-F Held) → P (forget y) → every-ResolvedType P (roll-ResolvedType (forget y))
  made y h = every_made-ResolvedType P (forget y) y refl h

  pub every_Boolean : P t.Boolean → every-ResolvedType P type.Boolean
  every_Boolean h = subst (every-ResolvedType P) rolls-Boolean (made t.Boolean h)

  pub every_Long : P t.Long → every-ResolvedType P type.Long
  every_Long h = subst (every-ResolvedType P) rolls-Long (made t.Long h)

  pub every_String : P t.String → every-ResolvedType P type.String
  every_String h = subst (every-ResolvedType P) rolls-String (made t.String h)

  pub every_Decimal : P t.Decimal → every-ResolvedType P type.Decimal
  every_Decimal h = subst (every-ResolvedType P) rolls-Decimal (made t.Decimal h)

  pub every_Ip : P t.Ip → every-ResolvedType P type.Ip
  every_Ip h = subst (every-ResolvedType P) rolls-Ip (made t.Ip h)

  pub every_Entity : (name : List ℕ) → P (t.Entity name) → every-ResolvedType P (type.Entity name)
  every_Entity name h = subst (every-ResolvedType P) (rolls-Entity name) (made (t.Entity name) h)

  pub every_Common : (name : List ℕ) → P (t.Common name) → every-ResolvedType P (type.Common name)
  every_Common name h = subst (every-ResolvedType P) (rolls-Common name) (made (t.Common name) h)

  pub every_Set : (x : ResolvedType) → P (t.Set x) → every-ResolvedType P x → every-ResolvedType P (type.Set x)
  every_Set x h k = subst (every-ResolvedType P) (rolls-Set x) (made (t.Set (x, k)) h)

  -- fields with their proofs
  paired : (fields : Fields) → AllByRecursion (λ (f : List ℕ × Presence × ResolvedType). every-ResolvedType P f.2) fields
      → (es : List (List ℕ × Presence × Held)) × (map (λ (e : List ℕ × Presence × Held). (e.0, e.1, e.2.0)) es ≡ fields)
  paired [] h = ([], refl)
  paired (f ∷ fields) h = let p = paired fields h.1 in ((f.0, f.1, (f.2, h.0)) ∷ p.0, ap (λ (fs : Fields). f ∷ fs) p.1)

  pub every_Record : (fields : Fields) → P (t.Record fields) → AllByRecursion (λ (f : List ℕ × Presence × ResolvedType). every-ResolvedType P f.2) fields → every-ResolvedType P (type.Record fields)
  every_Record fields h hs =
      let p = paired fields hs in
      subst (every-ResolvedType P) (rolls-Record fields)
      (subst (λ (fs : Fields). every-ResolvedType P (roll-ResolvedType (t.Record fs))) p.1 (made (t.Record p.0) (subst (λ (fs : Fields). P (t.Record fs)) (sym p.1) h)))
