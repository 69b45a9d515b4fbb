-- What holds at every level of a sort holds of it and at every level of the sorts inside it, and the other way round.
use Rattle.std.proofs.Common.{◌≡◌, ◌↔◌, ℕ, List, [], ◌∷◌, map, refl, sym, ap, ◌∙◌, subst}
use Rattle.std.specs.List.{AllByRecursion}
use Rattle.sc_names.specs.declared.uid.Uid.{Uid}
use Rattle.sc_sorts.specs.declared.sort.Sort.{Sort, Sort-F, roll-Sort, map-Sort, every-Sort, every_here-Sort, every_held-Sort, every_made-Sort, out-roll-Sort}
use Rattle.sc_sorts.specs.declared.sort.Sort.TheVariants as sort
use Rattle.sc_sorts.specs.declared.sort.Sort.TheVariants.{rolls-Bool, rolls-Long, rolls-String, rolls-Decimal, rolls-Ip, rolls-Entity, rolls-Set, rolls-Record, rolls-Option}
use Rattle.sc_sorts.specs.declared.sort.Sort.TheOpen as s
use Rattle.sc_sorts.specs.Inside.{SortField, SortFields}

module _ (P : Sort-F Sort → Type 0) where
  abbrev Held : Type 0
  Held = (z : Sort) × every-Sort P z

  abbrev forget : Sort-F Held → Sort-F Sort
  forget = map-Sort Held Sort (λ e. e.0)

  made : (y : Sort-F Held) → P (forget y) → every-Sort P (roll-Sort (forget y))
  made y h = every_made-Sort P (forget y) y refl h

  held : (x : Sort-F Sort) → every-Sort P (roll-Sort x) → P x × ((y : Sort-F Held) × (forget y ≡ x))
  held x h =
      let p = every_held-Sort P (roll-Sort x) h in
      (subst P (out-roll-Sort x) (every_here-Sort P (roll-Sort x) h), (p.0, p.1 ∙ out-roll-Sort x))

  abbrev EachField : SortFields → Type 0
  EachField = AllByRecursion (λ (f : SortField). every-Sort P f.1)

  -- fields with their proofs
  paired : (fields : SortFields) → EachField fields → (es : List (List ℕ × Held)) × (map (λ (e : List ℕ × Held). (e.0, e.1.0)) es ≡ fields)
  paired [] h = ([], refl)
  paired (f ∷ fields) h = let p = paired fields h.1 in ((f.0, (f.1, h.0)) ∷ p.0, ap (λ (fs : SortFields). f ∷ fs) p.1)

  unpaired : (es : List (List ℕ × Held)) → EachField (map (λ (e : List ℕ × Held). (e.0, e.1.0)) es)
  unpaired [] = tt
  unpaired (e ∷ es) = (e.1.1, unpaired es)

  pub in_Bool : every-Sort P sort.Bool ↔ P s.Bool
  in_Bool = (λ h. (held s.Bool (subst (every-Sort P) (sym rolls-Bool) h)).0, λ h. subst (every-Sort P) rolls-Bool (made s.Bool h))

  pub in_Long : every-Sort P sort.Long ↔ P s.Long
  in_Long = (λ h. (held s.Long (subst (every-Sort P) (sym rolls-Long) h)).0, λ h. subst (every-Sort P) rolls-Long (made s.Long h))

  pub in_String : every-Sort P sort.String ↔ P s.String
  in_String = (λ h. (held s.String (subst (every-Sort P) (sym rolls-String) h)).0, λ h. subst (every-Sort P) rolls-String (made s.String h))

  pub in_Decimal : every-Sort P sort.Decimal ↔ P s.Decimal
  in_Decimal = (λ h. (held s.Decimal (subst (every-Sort P) (sym rolls-Decimal) h)).0, λ h. subst (every-Sort P) rolls-Decimal (made s.Decimal h))

  pub in_Ip : every-Sort P sort.Ip ↔ P s.Ip
  in_Ip = (λ h. (held s.Ip (subst (every-Sort P) (sym rolls-Ip) h)).0, λ h. subst (every-Sort P) rolls-Ip (made s.Ip h))

  pub in_Entity : (name : List ℕ) (us : List Uid) → every-Sort P (sort.Entity name us) ↔ P (s.Entity name us)
  in_Entity name us = (
    λ h. (held (s.Entity name us) (subst (every-Sort P) (sym (rolls-Entity name us)) h)).0,
    λ h. subst (every-Sort P) (rolls-Entity name us) (made (s.Entity name us) h),
  )

  member_in : (k : Sort) (y : Sort-F Held) → forget y ≡ s.Set k → every-Sort P k
  member_in k s.Bool e = cc
  member_in k s.Long e = cc
  member_in k s.String e = cc
  member_in k s.Decimal e = cc
  member_in k s.Ip e = cc
  member_in k (s.Entity name us) e = cc
  member_in k (s.Set z) e = let same : z.0 ≡ k = cc in subst (every-Sort P) same z.1
  member_in k (s.Record z) e = cc
  member_in k (s.Option z) e = cc

  pub in_Set : (k : Sort) → every-Sort P (sort.Set k) ↔ (P (s.Set k) × every-Sort P k)
  in_Set k = (
    λ h. let p = held (s.Set k) (subst (every-Sort P) (sym (rolls-Set k)) h) in (p.0, member_in k p.1.0 p.1.1),
    λ h. subst (every-Sort P) (rolls-Set k) (made (s.Set (k, h.1)) h.0),
  )

  option_in : (k : Sort) (y : Sort-F Held) → forget y ≡ s.Option k → every-Sort P k
  option_in k s.Bool e = cc
  option_in k s.Long e = cc
  option_in k s.String e = cc
  option_in k s.Decimal e = cc
  option_in k s.Ip e = cc
  option_in k (s.Entity name us) e = cc
  option_in k (s.Set z) e = cc
  option_in k (s.Record z) e = cc
  option_in k (s.Option z) e = let same : z.0 ≡ k = cc in subst (every-Sort P) same z.1

  pub in_Option : (k : Sort) → every-Sort P (sort.Option k) ↔ (P (s.Option k) × every-Sort P k)
  in_Option k = (
    λ h. let p = held (s.Option k) (subst (every-Sort P) (sym (rolls-Option k)) h) in (p.0, option_in k p.1.0 p.1.1),
    λ h. subst (every-Sort P) (rolls-Option k) (made (s.Option (k, h.1)) h.0),
  )

  fields_in : (fields : SortFields) (y : Sort-F Held) → forget y ≡ s.Record fields → EachField fields
  fields_in fields s.Bool e = cc
  fields_in fields s.Long e = cc
  fields_in fields s.String e = cc
  fields_in fields s.Decimal e = cc
  fields_in fields s.Ip e = cc
  fields_in fields (s.Entity name us) e = cc
  fields_in fields (s.Set z) e = cc
  fields_in fields (s.Record es) e = let same : map (λ (z : List ℕ × Held). (z.0, z.1.0)) es ≡ fields = cc in subst EachField same (unpaired es)
  fields_in fields (s.Option z) e = cc

  pub in_Record : (fields : SortFields) → every-Sort P (sort.Record fields) ↔ (P (s.Record fields) × EachField fields)
  in_Record fields = (
    λ h. let p = held (s.Record fields) (subst (every-Sort P) (sym (rolls-Record fields)) h) in (p.0, fields_in fields p.1.0 p.1.1),
    λ h.
        let p = paired fields h.1 in
        subst (every-Sort P) (rolls-Record fields)
        (subst (λ (fs : SortFields). every-Sort P (roll-Sort (s.Record fs))) p.1 (made (s.Record p.0) (subst (λ (fs : SortFields). P (s.Record fs)) (sym p.1) h.0))),
  )
