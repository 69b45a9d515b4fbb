-- What holds at every level of a written type holds of it and at every level of the types inside it, and the other way round.
use Rattle.std.proofs.Common.{◌≡◌, ℕ, List, [], ◌∷◌, map, refl, sym, ap, ◌∙◌, subst}
use Rattle.std.specs.List.{AllByRecursion}
use Rattle.sc_schema_syntax.specs.declared.attribute.WrittenPresence.{WrittenPresence}
use Rattle.sc_schema_syntax.specs.declared.extension.ExtensionKind.{ExtensionKind}
use Rattle.sc_schema_syntax.specs.declared.written_type.WrittenType.{WrittenType, WrittenType-F, roll-WrittenType, map-WrittenType, every-WrittenType, every_here-WrittenType, every_held-WrittenType, every_made-WrittenType, out-roll-WrittenType}
use Rattle.sc_schema_syntax.specs.declared.written_type.WrittenType.TheVariants as type
use Rattle.sc_schema_syntax.specs.declared.written_type.WrittenType.TheVariants.{rolls-Boolean, rolls-Long, rolls-String, rolls-Set, rolls-Record, rolls-Entity, rolls-Extension, rolls-EntityOrCommon, rolls-Common}
use Rattle.sc_schema_syntax.specs.declared.written_type.WrittenType.TheOpen as t

abbrev pub Attributes : Type 0
Attributes = List (List ℕ × WrittenPresence × WrittenType)

module _ (P : WrittenType-F WrittenType → Type 0) where
  abbrev Held : Type 0
  Held = (x : WrittenType) × every-WrittenType P x

  abbrev forget : WrittenType-F Held → WrittenType-F WrittenType
  forget = map-WrittenType Held WrittenType (λ e. e.0)

  made : (y : WrittenType-F Held) → P (forget y) → every-WrittenType P (roll-WrittenType (forget y))
  made y h = every_made-WrittenType P (forget y) y refl h

  pub every_Boolean : P t.Boolean → every-WrittenType P type.Boolean
  every_Boolean h = subst (every-WrittenType P) rolls-Boolean (made t.Boolean h)

  pub every_Long : P t.Long → every-WrittenType P type.Long
  every_Long h = subst (every-WrittenType P) rolls-Long (made t.Long h)

  pub every_String : P t.String → every-WrittenType P type.String
  every_String h = subst (every-WrittenType P) rolls-String (made t.String h)

  pub every_Entity : (name : List ℕ) → P (t.Entity name) → every-WrittenType P (type.Entity name)
  every_Entity name h = subst (every-WrittenType P) (rolls-Entity name) (made (t.Entity name) h)

  pub every_Extension : (kind : ExtensionKind) → P (t.Extension kind) → every-WrittenType P (type.Extension kind)
  every_Extension kind h = subst (every-WrittenType P) (rolls-Extension kind) (made (t.Extension kind) h)

  pub every_EntityOrCommon : (name : List ℕ) → P (t.EntityOrCommon name) → every-WrittenType P (type.EntityOrCommon name)
  every_EntityOrCommon name h = subst (every-WrittenType P) (rolls-EntityOrCommon name) (made (t.EntityOrCommon name) h)

  pub every_Common : (name : List ℕ) → P (t.Common name) → every-WrittenType P (type.Common name)
  every_Common name h = subst (every-WrittenType P) (rolls-Common name) (made (t.Common name) h)

  pub every_Set : (x : WrittenType) → P (t.Set x) → every-WrittenType P x → every-WrittenType P (type.Set x)
  every_Set x h k = subst (every-WrittenType P) (rolls-Set x) (made (t.Set (x, k)) h)

  -- attributes with their proofs
  paired : (all : Attributes) → AllByRecursion (λ (a : List ℕ × WrittenPresence × WrittenType). every-WrittenType P a.2) all
      → (es : List (List ℕ × WrittenPresence × Held)) × (map (λ (e : List ℕ × WrittenPresence × Held). (e.0, e.1, e.2.0)) es ≡ all)
  paired [] h = ([], refl)
  paired (a ∷ all) h = let p = paired all h.1 in ((a.0, a.1, (a.2, h.0)) ∷ p.0, ap (λ (xs : Attributes). a ∷ xs) p.1)

  pub every_Record : (all : Attributes) → P (t.Record all) → AllByRecursion (λ (a : List ℕ × WrittenPresence × WrittenType). every-WrittenType P a.2) all → every-WrittenType P (type.Record all)
  every_Record all h hs =
      let p = paired all hs in
      subst (every-WrittenType P) (rolls-Record all)
      (subst (λ (xs : Attributes). every-WrittenType P (roll-WrittenType (t.Record xs))) p.1 (made (t.Record p.0) (subst (λ (xs : Attributes). P (t.Record xs)) (sym p.1) h)))

  -- ---- the other way round

  pub every_level : (x : WrittenType-F WrittenType) → every-WrittenType P (roll-WrittenType x) → P x
  every_level x h = subst P (out-roll-WrittenType x) (every_here-WrittenType P (roll-WrittenType x) h)

  held : (x : WrittenType-F WrittenType) → every-WrittenType P (roll-WrittenType x) → (y : WrittenType-F Held) × (forget y ≡ x)
  held x h = let p = every_held-WrittenType P (roll-WrittenType x) h in (p.0, p.1 ∙ out-roll-WrittenType x)

  unpaired : (es : List (List ℕ × WrittenPresence × Held))
      → AllByRecursion (λ (a : List ℕ × WrittenPresence × WrittenType). every-WrittenType P a.2) (map (λ (e : List ℕ × WrittenPresence × Held). (e.0, e.1, e.2.0)) es)
  unpaired [] = tt
  unpaired (e ∷ es) = (e.2.1, unpaired es)

  set_element : (x : WrittenType) (y : WrittenType-F Held) → forget y ≡ t.Set x → every-WrittenType P x
  set_element x t.Boolean e = cc
  set_element x t.Long e = cc
  set_element x t.String e = cc
  set_element x (t.Set z) e = let h : z.0 ≡ x = cc in subst (every-WrittenType P) h z.1
  set_element x (t.Record es) e = cc
  set_element x (t.Entity name) e = cc
  set_element x (t.Extension kind) e = cc
  set_element x (t.EntityOrCommon name) e = cc
  set_element x (t.Common name) e = cc

  record_attributes : (all : Attributes) (y : WrittenType-F Held) → forget y ≡ t.Record all → AllByRecursion (λ (a : List ℕ × WrittenPresence × WrittenType). every-WrittenType P a.2) all
  record_attributes all t.Boolean e = cc
  record_attributes all t.Long e = cc
  record_attributes all t.String e = cc
  record_attributes all (t.Set z) e = cc
  record_attributes all (t.Record es) e =
      let h : map (λ (z : List ℕ × WrittenPresence × Held). (z.0, z.1, z.2.0)) es ≡ all = cc in
      subst (AllByRecursion (λ (a : List ℕ × WrittenPresence × WrittenType). every-WrittenType P a.2)) h (unpaired es)
  record_attributes all (t.Entity name) e = cc
  record_attributes all (t.Extension kind) e = cc
  record_attributes all (t.EntityOrCommon name) e = cc
  record_attributes all (t.Common name) e = cc

  pub every_element : (x : WrittenType) → every-WrittenType P (roll-WrittenType (t.Set x)) → every-WrittenType P x
  every_element x h = let p = held (t.Set x) h in set_element x p.0 p.1

  pub every_attributes : (all : Attributes) → every-WrittenType P (roll-WrittenType (t.Record all)) → AllByRecursion (λ (a : List ℕ × WrittenPresence × WrittenType). every-WrittenType P a.2) all
  every_attributes all h = let p = held (t.Record all) h in record_attributes all p.0 p.1
