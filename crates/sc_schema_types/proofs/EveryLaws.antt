-- What holds at every level of a type whose names are looked up holds at its first level, and of the types inside it.
use Rattle.std.proofs.Common.{◌≡◌, ℕ, List, [], ◌∷◌, map, ◌∙◌, subst}
use Rattle.std.specs.List.{AllByRecursion}
use Rattle.sc_schema.specs.declared.ty.Presence.{Presence}
use Rattle.sc_schema.specs.declared.resolved_type.ResolvedType.{ResolvedType, ResolvedType-F, roll-ResolvedType, map-ResolvedType, every-ResolvedType, every_here-ResolvedType, every_held-ResolvedType, out-roll-ResolvedType}
use Rattle.sc_schema.specs.declared.resolved_type.ResolvedType.TheOpen as r
use Rattle.sc_schema_types.proofs.NamesLaws.{Attribute}

module _ (P : ResolvedType-F ResolvedType → Type 0) where
  abbrev Held : Type 0
  Held = (type : ResolvedType) × every-ResolvedType P type

  abbrev forget : ResolvedType-F Held → ResolvedType-F ResolvedType
  forget = map-ResolvedType Held ResolvedType (λ e. e.0)

  held : (x : ResolvedType-F ResolvedType) → every-ResolvedType P (roll-ResolvedType x) → (y : ResolvedType-F Held) × (forget y ≡ x)
  held x h = let p = every_held-ResolvedType P (roll-ResolvedType x) h in (p.0, p.1 ∙ out-roll-ResolvedType x)

  -- its first level
  pub at_level : (x : ResolvedType-F ResolvedType) → every-ResolvedType P (roll-ResolvedType x) → P x
  at_level x h = subst P (out-roll-ResolvedType x) (every_here-ResolvedType P (roll-ResolvedType x) h)

  unpaired : (es : List (List ℕ × Presence × Held)) → AllByRecursion (λ (a : Attribute). every-ResolvedType P a.2) (map (λ (e : List ℕ × Presence × Held). (e.0, e.1, e.2.0)) es)
  unpaired [] = tt
  unpaired (e ∷ es) = (e.2.1, unpaired es)

  element : (x : ResolvedType) (y : ResolvedType-F Held) → forget y ≡ r.Set x → every-ResolvedType P x
  element x r.Boolean e = cc
  element x r.Long e = cc
  element x r.String e = cc
  element x r.Decimal e = cc
  element x r.Ip e = cc
  element x (r.Entity name) e = cc
  element x (r.Set z) e =
      let same : z.0 ≡ x = cc in
      subst (every-ResolvedType P) same z.1
  element x (r.Record es) e = cc
  element x (r.Common name) e = cc

  attributes : (fields : List Attribute) (y : ResolvedType-F Held) → forget y ≡ r.Record fields → AllByRecursion (λ (a : Attribute). every-ResolvedType P a.2) fields
  attributes fields r.Boolean e = cc
  attributes fields r.Long e = cc
  attributes fields r.String e = cc
  attributes fields r.Decimal e = cc
  attributes fields r.Ip e = cc
  attributes fields (r.Entity name) e = cc
  attributes fields (r.Set z) e = cc
  attributes fields (r.Record es) e =
      let same : map (λ (z : List ℕ × Presence × Held). (z.0, z.1, z.2.0)) es ≡ fields = cc in
      subst (AllByRecursion (λ (a : Attribute). every-ResolvedType P a.2)) same (unpaired es)
  attributes fields (r.Common name) e = cc

  -- the elements of a set
  pub in_Set : (x : ResolvedType) → every-ResolvedType P (roll-ResolvedType (r.Set x)) → every-ResolvedType P x
  in_Set x h = let p = held (r.Set x) h in element x p.0 p.1

  -- the attributes of a record
  pub in_Record : (fields : List Attribute) → every-ResolvedType P (roll-ResolvedType (r.Record fields)) → AllByRecursion (λ (a : Attribute). every-ResolvedType P a.2) fields
  in_Record fields h = let p = held (r.Record fields) h in attributes fields p.0 p.1
