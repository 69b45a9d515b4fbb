-- What holds at every level of a type holds at its first level and of the types inside it.
use Rattle.std.proofs.Common.{◌≡◌, ℕ, List, [], ◌∷◌, map, ◌∙◌, subst}
use Rattle.std.specs.List.{AllByRecursion}
use Rattle.sc_schema.specs.declared.ty.Presence.{Presence}
use Rattle.sc_schema.specs.declared.ty.Ty.{Ty, Ty-F, roll-Ty, map-Ty, every-Ty, every_here-Ty, every_held-Ty, out-roll-Ty}
use Rattle.sc_schema.specs.declared.ty.Ty.TheOpen as t

module _ (P : Ty-F Ty → Type 0) where
  abbrev Held : Type 0
  Held = (x : Ty) × every-Ty P x

  abbrev forget : Ty-F Held → Ty-F Ty
  forget = map-Ty Held Ty (λ e. e.0)

  pub every_level : (y : Ty-F Ty) → every-Ty P (roll-Ty y) → P y
  every_level y h = subst P (out-roll-Ty y) (every_here-Ty P (roll-Ty y) h)

  inside : (y : Ty-F Ty) → every-Ty P (roll-Ty y) → (z : Ty-F Held) × (forget z ≡ y)
  inside y h = let p = every_held-Ty P (roll-Ty y) h in (p.0, p.1 ∙ out-roll-Ty y)

  set_member : (member : Ty) (z : Ty-F Held) → forget z ≡ t.Set member → every-Ty P member
  set_member member t.True e = absurd cc
  set_member member t.False e = absurd cc
  set_member member t.Bool e = absurd cc
  set_member member t.Long e = absurd cc
  set_member member t.String e = absurd cc
  set_member member t.Decimal e = absurd cc
  set_member member t.Ip e = absurd cc
  set_member member (t.Entity kind) e = absurd cc
  set_member member (t.Set x) e = let is : x.0 ≡ member = cc in subst (every-Ty P) is x.1
  set_member member (t.Record fields) e = absurd cc

  pub every_member : (member : Ty) → every-Ty P (roll-Ty (t.Set member)) → every-Ty P member
  every_member member h = let p = inside (t.Set member) h in set_member member p.0 p.1

  abbrev Fields : Type 0
  Fields = List (List ℕ × Presence × Ty)

  unpaired : (es : List (List ℕ × Presence × Held)) → AllByRecursion (λ (f : List ℕ × Presence × Ty). every-Ty P f.2) (map (λ (e : List ℕ × Presence × Held). (e.0, e.1, e.2.0)) es)
  unpaired [] = tt
  unpaired (e ∷ es) = (e.2.1, unpaired es)

  record_fields : (fields : Fields) (z : Ty-F Held) → forget z ≡ t.Record fields → AllByRecursion (λ (f : List ℕ × Presence × Ty). every-Ty P f.2) fields
  record_fields fields t.True e = absurd cc
  record_fields fields t.False e = absurd cc
  record_fields fields t.Bool e = absurd cc
  record_fields fields t.Long e = absurd cc
  record_fields fields t.String e = absurd cc
  record_fields fields t.Decimal e = absurd cc
  record_fields fields t.Ip e = absurd cc
  record_fields fields (t.Entity kind) e = absurd cc
  record_fields fields (t.Set x) e = absurd cc
  record_fields fields (t.Record es) e =
      let is : map (λ (x : List ℕ × Presence × Held). (x.0, x.1, x.2.0)) es ≡ fields = cc in
      subst (AllByRecursion (λ (f : List ℕ × Presence × Ty). every-Ty P f.2)) is (unpaired es)

  pub every_field : (fields : Fields) → every-Ty P (roll-Ty (t.Record fields)) → AllByRecursion (λ (f : List ℕ × Presence × Ty). every-Ty P f.2) fields
  every_field fields h = let p = inside (t.Record fields) h in record_fields fields p.0 p.1
