-- What a type stands for rests on what the common types that it names stand for, and on nothing else.
use Rattle.std.proofs.Common.{◌≡◌, ℕ, List, [], ◌∷◌, map, Contains, refl, ap, sym, ◌∙◌, subst}
use Rattle.std.specs.List.{flat_map}
use Rattle.std.proofs.lemmas.List.Elements.{Contains-append_left, Contains-append_right}
use Rattle.sc_lists.proofs.ListLaws.{contains_first}
use Rattle.sc_schema.specs.declared.ty.Presence.{Presence}
use Rattle.sc_schema.specs.declared.ty.Ty.{Ty}
use Rattle.sc_schema.specs.declared.ty.Ty.TheVariants as ty
use Rattle.sc_schema.specs.declared.resolved_type.ResolvedType.{ResolvedType, ResolvedType-F, roll-ResolvedType, map-ResolvedType, ind-ResolvedType, fold-roll-ResolvedType}
use Rattle.sc_schema.specs.declared.resolved_type.ResolvedType.TheOpen as r
use Rattle.sc_schema_types.specs.References.{Names, names_in, names_step}
use Rattle.sc_schema_types.specs.Expansions.{Kinds, Meaning, expanded, expand_step}
use Rattle.sc_schema_types.proofs.NamesLaws.{Attribute}
use Rattle.sc_schema_types.proofs.ExpansionLaws.{fields_of}

pub names-roll : (x : ResolvedType-F ResolvedType) → names_in (roll-ResolvedType x) ≡ names_step (map-ResolvedType ResolvedType Names names_in x)
unfolding names_in
names-roll x = fold-roll-ResolvedType Names names_step x

pub expanded-roll : (k : Kinds) (m : Meaning) (x : ResolvedType-F ResolvedType) → expanded k m (roll-ResolvedType x) ≡ expand_step k m (map-ResolvedType ResolvedType Ty (expanded k m) x)
unfolding expanded
expanded-roll k m x = fold-roll-ResolvedType Ty (expand_step k m) x

-- two meanings are one at each of these names
pub record Agree (m n : Meaning) (names : Names) : Type 0 where
  pub same : (q : List ℕ) → Contains names q → m q ≡ n q

module _ (k : Kinds) (m n : Meaning) where
  abbrev IsSame : ResolvedType → Type 0
  IsSame type = Agree m n (names_in type) → expanded k m type ≡ expanded k n type

  abbrev Known : Type 0
  Known = (type : ResolvedType) × IsSame type

  abbrev KnownFields : Type 0
  KnownFields = List (List ℕ × Presence × Known)

  abbrev forget : ResolvedType-F Known → ResolvedType-F ResolvedType
  forget = map-ResolvedType Known ResolvedType (λ e. e.0)

  abbrev forget_fields : KnownFields → List Attribute
  forget_fields = map (λ (e : List ℕ × Presence × Known). (e.0, e.1, e.2.0))

  abbrev names_of : List Attribute → Names
  names_of fields = flat_map (λ (a : List ℕ × Presence × Names). a.2) (map (λ (a : Attribute). (a.0, a.1, names_in a.2)) fields)

  same_fields : (es : KnownFields) → Agree m n (names_of (forget_fields es)) → fields_of k m (forget_fields es) ≡ fields_of k n (forget_fields es)
  same_fields [] h = refl
  same_fields (e ∷ es) h =
      let first : expanded k m e.2.0 ≡ expanded k n e.2.0 = e.2.1 (record { same = λ q has. h.same q (Contains-append_left (names_in e.2.0) (names_of (forget_fields es)) q has) }) in
      let rest : fields_of k m (forget_fields es) ≡ fields_of k n (forget_fields es) = same_fields es (record { same = λ q has. h.same q (Contains-append_right (names_in e.2.0) (names_of (forget_fields es)) q has) }) in
      λ i. (e.0, e.1, first i) ∷ rest i

  same_step : (y : ResolvedType-F Known) → Agree m n (names_step (map-ResolvedType ResolvedType Names names_in (forget y)))
      → expand_step k m (map-ResolvedType ResolvedType Ty (expanded k m) (forget y)) ≡ expand_step k n (map-ResolvedType ResolvedType Ty (expanded k n) (forget y))
  same_step r.Boolean h = refl
  same_step r.Long h = refl
  same_step r.String h = refl
  same_step r.Decimal h = refl
  same_step r.Ip h = refl
  same_step (r.Entity name) h = refl
  same_step (r.Set e) h = ap ty.Set (e.1 h)
  same_step (r.Record es) h = ap ty.Record (same_fields es h)
  same_step (r.Common name) h = h.same name (contains_first name [])

  same_layer : (y : ResolvedType-F Known) → IsSame (roll-ResolvedType (forget y))
  same_layer y h = expanded-roll k m (forget y) ∙ same_step y (subst (Agree m n) (names-roll (forget y)) h) ∙ sym (expanded-roll k n (forget y))

  pub same_expanded : (type : ResolvedType) → Agree m n (names_in type) → expanded k m type ≡ expanded k n type
  same_expanded = ind-ResolvedType IsSame (λ x y e. subst (λ (z : ResolvedType-F ResolvedType). IsSame (roll-ResolvedType z)) e (same_layer y))
