-- What holds at every level of a value holds of it and at every level of the values inside it, and the other way round.
use Rattle.std.proofs.Common.{◌≡◌, ℕ, List, [], ◌∷◌, map, refl, sym, ap, ◌∙◌, subst}
use Rattle.std.specs.List.{AllByRecursion}
use Rattle.sc_values.specs.declared.value.Value.{Value, Value-F, out-Value, roll-Value, map-Value, every-Value, every_here-Value, every_held-Value, every_made-Value, out-roll-Value}
use Rattle.sc_values.specs.declared.value.Value.TheVariants as value
use Rattle.sc_values.specs.declared.value.Value.TheVariants.{rolls-Bool, rolls-Long, rolls-String, rolls-Entity, rolls-Set, rolls-Record, rolls-Decimal, rolls-Ip}
use Rattle.sc_values.specs.declared.value.Value.TheOpen as v

module _ (P : Value-F Value → Type 0) where
  abbrev Held : Type 0
  Held = (z : Value) × every-Value P z

  abbrev forget : Value-F Held → Value-F Value
  forget = map-Value Held Value (λ e. e.0)

  made : (y : Value-F Held) → P (forget y) → every-Value P (roll-Value (forget y))
  made y h = every_made-Value P (forget y) y refl h

  held : (x : Value-F Value) → every-Value P (roll-Value x) → P x × ((y : Value-F Held) × (forget y ≡ x))
  held x h =
      let p = every_held-Value P (roll-Value x) h in
      (subst P (out-roll-Value x) (every_here-Value P (roll-Value x) h), (p.0, p.1 ∙ out-roll-Value x))

  -- members with their proofs
  paired_members : (members : List Value) → AllByRecursion (every-Value P) members → (es : List Held) × (map (λ (e : Held). e.0) es ≡ members)
  paired_members [] h = ([], refl)
  paired_members (x ∷ members) h = let p = paired_members members h.1 in ((x, h.0) ∷ p.0, ap (λ xs. x ∷ xs) p.1)

  unpaired_members : (es : List Held) → AllByRecursion (every-Value P) (map (λ (e : Held). e.0) es)
  unpaired_members [] = tt
  unpaired_members (e ∷ es) = (e.1, unpaired_members es)

  -- fields with their proofs
  paired : (fields : List (List ℕ × Value)) → AllByRecursion (λ (f : List ℕ × Value). every-Value P f.1) fields → (es : List (List ℕ × Held)) × (map (λ (e : List ℕ × Held). (e.0, e.1.0)) es ≡ fields)
  paired [] h = ([], refl)
  paired (f ∷ fields) h = let p = paired fields h.1 in ((f.0, (f.1, h.0)) ∷ p.0, ap (λ fs. f ∷ fs) p.1)

  unpaired : (es : List (List ℕ × Held)) → AllByRecursion (λ (f : List ℕ × Value). every-Value P f.1) (map (λ (e : List ℕ × Held). (e.0, e.1.0)) es)
  unpaired [] = tt
  unpaired (e ∷ es) = (e.1.1, unpaired es)

  pub every_Bool : (b : _) → P (v.Bool b) → every-Value P (value.Bool b)
  every_Bool b h = subst (every-Value P) (rolls-Bool b) (made (v.Bool b) h)

  pub every_Long : (n : _) → P (v.Long n) → every-Value P (value.Long n)
  every_Long n h = subst (every-Value P) (rolls-Long n) (made (v.Long n) h)

  pub every_String : (text : _) → P (v.String text) → every-Value P (value.String text)
  every_String text h = subst (every-Value P) (rolls-String text) (made (v.String text) h)

  pub every_Decimal : (n : _) → P (v.Decimal n) → every-Value P (value.Decimal n)
  every_Decimal n h = subst (every-Value P) (rolls-Decimal n) (made (v.Decimal n) h)

  pub every_Ip : (ip : _) → P (v.Ip ip) → every-Value P (value.Ip ip)
  every_Ip ip h = subst (every-Value P) (rolls-Ip ip) (made (v.Ip ip) h)

  pub every_Entity : (u : _) → P (v.Entity u) → every-Value P (value.Entity u)
  every_Entity u h = subst (every-Value P) (rolls-Entity u) (made (v.Entity u) h)

  pub every_Record : (fields : List (List ℕ × Value)) → P (v.Record fields) → AllByRecursion (λ (f : List ℕ × Value). every-Value P f.1) fields → every-Value P (value.Record fields)
  every_Record fields h hs =
      let p = paired fields hs in
      subst (every-Value P) (rolls-Record fields) (subst (λ fs. every-Value P (roll-Value (v.Record fs))) p.1 (made (v.Record p.0) (subst (λ fs. P (v.Record fs)) (sym p.1) h)))

  pub every_Set : (members : List Value) → P (v.Set members) → AllByRecursion (every-Value P) members → every-Value P (value.Set members)
  every_Set members h hs =
      let p = paired_members members hs in
      subst (every-Value P) (rolls-Set members) (subst (λ xs. every-Value P (roll-Value (v.Set xs))) p.1 (made (v.Set p.0) (subst (λ xs. P (v.Set xs)) (sym p.1) h)))

  set_members : (members : List Value) (y : Value-F Held) → forget y ≡ v.Set members → AllByRecursion (every-Value P) members
  set_members members (v.Bool b) e = cc
  set_members members (v.Long b) e = cc
  set_members members (v.String b) e = cc
  set_members members (v.Entity b) e = cc
  set_members members (v.Set es) e =
      let h : map (λ (z : Held). z.0) es ≡ members = cc in
      subst (AllByRecursion (every-Value P)) h (unpaired_members es)
  set_members members (v.Record b) e = cc
  set_members members (v.Decimal b) e = cc
  set_members members (v.Ip b) e = cc

  record_fields : (fields : List (List ℕ × Value)) (y : Value-F Held) → forget y ≡ v.Record fields → AllByRecursion (λ (f : List ℕ × Value). every-Value P f.1) fields
  record_fields fields (v.Bool b) e = cc
  record_fields fields (v.Long b) e = cc
  record_fields fields (v.String b) e = cc
  record_fields fields (v.Entity b) e = cc
  record_fields fields (v.Set b) e = cc
  record_fields fields (v.Record es) e =
      let h : map (λ (z : List ℕ × Held). (z.0, z.1.0)) es ≡ fields = cc in
      subst (AllByRecursion (λ (f : List ℕ × Value). every-Value P f.1)) h (unpaired es)
  record_fields fields (v.Decimal b) e = cc
  record_fields fields (v.Ip b) e = cc

  pub every_level : (x : Value) → every-Value P x → P (out-Value x)
  every_level x h = every_here-Value P x h

  pub every_fields : (fields : List (List ℕ × Value)) → every-Value P (value.Record fields) → AllByRecursion (λ (f : List ℕ × Value). every-Value P f.1) fields
  every_fields fields h = let p = held (v.Record fields) (subst (every-Value P) (sym (rolls-Record fields)) h) in record_fields fields p.1.0 p.1.1

  pub every_members : (members : List Value) → every-Value P (value.Set members) → AllByRecursion (every-Value P) members
  every_members members h = let p = held (v.Set members) (subst (every-Value P) (sym (rolls-Set members)) h) in set_members members p.1.0 p.1.1
