-- What holds at every level of a type holds of it and at every level of the types inside it, and the other way round.
use Rattle.std.proofs.Common.{◌≡◌, ℕ, List, [], ◌∷◌, map, refl, sym, ap, ◌∙◌, subst}
use Rattle.std.specs.List.{AllByRecursion}
use Rattle.sc_schema.specs.declared.ty.EntityKind.{EntityKind}
use Rattle.sc_schema.specs.declared.ty.Presence.{Presence}
use Rattle.sc_schema.specs.declared.ty.Ty.{Ty, Ty-F, roll-Ty, map-Ty, ind-Ty, every-Ty, every_here-Ty, every_held-Ty, every_made-Ty, out-roll-Ty}
use Rattle.sc_schema.specs.declared.ty.Ty.TheVariants as ty
use Rattle.sc_schema.specs.declared.ty.Ty.TheVariants.{rolls-Bool, rolls-Long, rolls-String, rolls-Decimal, rolls-Ip, rolls-Entity, rolls-Set, rolls-Record}
use Rattle.sc_schema.specs.declared.ty.Ty.TheOpen as t

abbrev pub Fields : Type 0
Fields = List (List ℕ × Presence × Ty)

module _ (P : Ty-F Ty → Type 0) where
  abbrev Held : Type 0
  Held = (x : Ty) × every-Ty P x

  abbrev forget : Ty-F Held → Ty-F Ty
  forget = map-Ty Held Ty (λ e. e.0)

  made : (y : Ty-F Held) → P (forget y) → every-Ty P (roll-Ty (forget y))
  made y h = every_made-Ty P (forget y) y refl h

  pub every_Bool : P t.Bool → every-Ty P ty.Bool
  every_Bool h = subst (every-Ty P) rolls-Bool (made t.Bool h)

  pub every_Long : P t.Long → every-Ty P ty.Long
  every_Long h = subst (every-Ty P) rolls-Long (made t.Long h)

  pub every_String : P t.String → every-Ty P ty.String
  every_String h = subst (every-Ty P) rolls-String (made t.String h)

  pub every_Decimal : P t.Decimal → every-Ty P ty.Decimal
  every_Decimal h = subst (every-Ty P) rolls-Decimal (made t.Decimal h)

  pub every_Ip : P t.Ip → every-Ty P ty.Ip
  every_Ip h = subst (every-Ty P) rolls-Ip (made t.Ip h)

  pub every_Entity : (kind : EntityKind) → P (t.Entity kind) → every-Ty P (ty.Entity kind)
  every_Entity kind h = subst (every-Ty P) (rolls-Entity kind) (made (t.Entity kind) h)

  pub every_Set : (x : Ty) → P (t.Set x) → every-Ty P x → every-Ty P (ty.Set x)
  every_Set x h k = subst (every-Ty P) (rolls-Set x) (made (t.Set (x, k)) h)

  -- fields with their proofs
  paired : (fields : Fields) → AllByRecursion (λ (f : List ℕ × Presence × Ty). every-Ty P f.2) fields → (es : List (List ℕ × Presence × Held)) × (map (λ (e : List ℕ × Presence × Held). (e.0, e.1, e.2.0)) es ≡ fields)
  paired [] h = ([], refl)
  paired (f ∷ fields) h = let p = paired fields h.1 in ((f.0, f.1, (f.2, h.0)) ∷ p.0, ap (λ (fs : Fields). f ∷ fs) p.1)

  pub every_Record : (fields : Fields) → P (t.Record fields) → AllByRecursion (λ (f : List ℕ × Presence × Ty). every-Ty P f.2) fields → every-Ty P (ty.Record fields)
  every_Record fields h hs =
      let p = paired fields hs in
      subst (every-Ty P) (rolls-Record fields) (subst (λ (fs : Fields). every-Ty P (roll-Ty (t.Record fs))) p.1 (made (t.Record p.0) (subst (λ (fs : Fields). P (t.Record fs)) (sym p.1) h)))

  -- ---- and the other way round

  pub every_level : (x : Ty-F Ty) → every-Ty P (roll-Ty x) → P x
  every_level x h = subst P (out-roll-Ty x) (every_here-Ty P (roll-Ty x) h)

  held : (x : Ty-F Ty) → every-Ty P (roll-Ty x) → (y : Ty-F Held) × (forget y ≡ x)
  held x h = let p = every_held-Ty P (roll-Ty x) h in (p.0, p.1 ∙ out-roll-Ty x)

  set_member : (x : Ty) (y : Ty-F Held) → forget y ≡ t.Set x → every-Ty P x
  set_member x t.True e = cc
  set_member x t.False e = cc
  set_member x t.Bool e = cc
  set_member x t.Long e = cc
  set_member x t.String e = cc
  set_member x t.Decimal e = cc
  set_member x t.Ip e = cc
  set_member x (t.Entity kind) e = cc
  set_member x (t.Set z) e = let same : z.0 ≡ x = cc in subst (every-Ty P) same z.1
  set_member x (t.Record es) e = cc

  pub every_member : (x : Ty) → every-Ty P (roll-Ty (t.Set x)) → every-Ty P x
  every_member x h = let p = held (t.Set x) h in set_member x p.0 p.1

  unpaired : (es : List (List ℕ × Presence × Held)) → AllByRecursion (λ (f : List ℕ × Presence × Ty). every-Ty P f.2) (map (λ (e : List ℕ × Presence × Held). (e.0, e.1, e.2.0)) es)
  unpaired [] = tt
  unpaired (e ∷ es) = (e.2.1, unpaired es)

  record_fields : (fields : Fields) (y : Ty-F Held) → forget y ≡ t.Record fields → AllByRecursion (λ (f : List ℕ × Presence × Ty). every-Ty P f.2) fields
  record_fields fields t.True e = cc
  record_fields fields t.False e = cc
  record_fields fields t.Bool e = cc
  record_fields fields t.Long e = cc
  record_fields fields t.String e = cc
  record_fields fields t.Decimal e = cc
  record_fields fields t.Ip e = cc
  record_fields fields (t.Entity kind) e = cc
  record_fields fields (t.Set z) e = cc
  record_fields fields (t.Record es) e =
      let same : map (λ (z : List ℕ × Presence × Held). (z.0, z.1, z.2.0)) es ≡ fields = cc in
      subst (AllByRecursion (λ (f : List ℕ × Presence × Ty). every-Ty P f.2)) same (unpaired es)

  pub every_field : (fields : Fields) → every-Ty P (roll-Ty (t.Record fields)) → AllByRecursion (λ (f : List ℕ × Presence × Ty). every-Ty P f.2) fields
  every_field fields h = let p = held (t.Record fields) h in record_fields fields p.0 p.1

-- what follows at each level follows at all
module _ (P Q : Ty-F Ty → Type 0) (weaker : (x : Ty-F Ty) → P x → Q x) where
  abbrev Known : Type 0
  Known = (x : Ty) × (every-Ty P x → every-Ty Q x)

  abbrev known : Ty-F Known → Ty-F Ty
  known = map-Ty Known Ty (λ k. k.0)

  abbrev known_fields : List (List ℕ × Presence × Known) → Fields
  known_fields = map (λ (k : List ℕ × Presence × Known). (k.0, k.1, k.2.0))

  each_weaker : (ks : List (List ℕ × Presence × Known)) → AllByRecursion (λ (f : List ℕ × Presence × Ty). every-Ty P f.2) (known_fields ks) → AllByRecursion (λ (f : List ℕ × Presence × Ty). every-Ty Q f.2) (known_fields ks)
  each_weaker [] h = tt
  each_weaker (k ∷ ks) h = (k.2.1 h.0, each_weaker ks h.1)

  level_weaker : (y : Ty-F Known) → every-Ty P (roll-Ty (known y)) → every-Ty Q (roll-Ty (known y))
  level_weaker t.True h = made Q t.True (weaker t.True (every_level P t.True h))
  level_weaker t.False h = made Q t.False (weaker t.False (every_level P t.False h))
  level_weaker t.Bool h = made Q t.Bool (weaker t.Bool (every_level P t.Bool h))
  level_weaker t.Long h = made Q t.Long (weaker t.Long (every_level P t.Long h))
  level_weaker t.String h = made Q t.String (weaker t.String (every_level P t.String h))
  level_weaker t.Decimal h = made Q t.Decimal (weaker t.Decimal (every_level P t.Decimal h))
  level_weaker t.Ip h = made Q t.Ip (weaker t.Ip (every_level P t.Ip h))
  level_weaker (t.Entity kind) h = made Q (t.Entity kind) (weaker (t.Entity kind) (every_level P (t.Entity kind) h))
  level_weaker (t.Set k) h = subst (every-Ty Q) (sym (rolls-Set k.0)) (every_Set Q k.0 (weaker (t.Set k.0) (every_level P (t.Set k.0) h)) (k.1 (every_member P k.0 h)))
  level_weaker (t.Record ks) h =
      let fields = known_fields ks in
      subst (every-Ty Q) (sym (rolls-Record fields)) (every_Record Q fields (weaker (t.Record fields) (every_level P (t.Record fields) h)) (each_weaker ks (every_field P fields h)))

  pub every_weaker : (x : Ty) → every-Ty P x → every-Ty Q x
  every_weaker = ind-Ty (λ x. every-Ty P x → every-Ty Q x) (λ x y e. subst (λ z. every-Ty P (roll-Ty z) → every-Ty Q (roll-Ty z)) e (level_weaker y))
