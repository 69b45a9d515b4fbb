-- What a type of a resolved schema stands for names declared entity types, and its fields ascend.
use Rattle.std.proofs.Common.{◌≡◌, ℕ, List, [], ◌∷◌, map, Contains, refl, sym, ap, subst}
use Rattle.std.specs.List.{AllByRecursion, flat_map}
use Rattle.std.specs.Str.{IsUtf8}
use Rattle.std.proofs.lemmas.List.Elements.{Contains-append_left, Contains-append_right}
use Rattle.sc_lists.proofs.ListLaws.{contains_first}
use Rattle.sc_schema.proofs.EveryTypeLaws.{every_Bool, every_Long, every_String, every_Decimal, every_Ip, every_Entity, every_Set, every_Record}
use Rattle.sc_schema.specs.declared.ty.Presence.{Presence}
use Rattle.sc_schema.specs.declared.ty.Ty.{Ty}
use Rattle.sc_schema.specs.Lawful.{AreAscending, names_of_fields, IsLevelOver}
use Rattle.sc_schema.specs.declared.resolved_type.ResolvedType.{ResolvedType, ResolvedType-F, roll-ResolvedType, map-ResolvedType, ind-ResolvedType}
use Rattle.sc_schema.specs.declared.resolved_type.ResolvedType.TheOpen as r
use Rattle.sc_schema.specs.declared.resolved_schema.ResolvedSchema.{ResolvedSchema}
use Rattle.sc_schema.specs.Resolved.{field_names, IsResolvedLevel, IsResolvedType}
use Rattle.sc_schema.specs.Expanded.{IsTypeAmong}
use Rattle.sc_schema_types.specs.References.{Names, names_in, names_step}
use Rattle.sc_schema_types.specs.Expansions.{Kinds, kinds_of, kind_among, Meaning, expanded, expand_step}
use Rattle.sc_schema_types.proofs.AgreeLaws.{names-roll, expanded-roll}
use Rattle.sc_schema_types.proofs.EveryLaws.{at_level, in_Set, in_Record}
use Rattle.sc_schema_types.proofs.ExpansionLaws.{fields_of}
use Rattle.sc_schema_types.proofs.KindsLaws.{declared_kind}
use Rattle.sc_schema_types.proofs.NamesLaws.{Attribute}

same_names : (k : Kinds) (m : Meaning) (fields : List Attribute) → field_names fields ≡ names_of_fields (fields_of k m fields)
same_names k m [] = refl
same_names k m (a ∷ fields) = ap (λ (ns : List (List ℕ)). a.0 ∷ ns) (same_names k m fields)

module _ (s : ResolvedSchema) (m : Meaning) where
  abbrev k : Kinds
  k = kinds_of s

  abbrev IsOver : Ty → Type 0
  IsOver = IsTypeAmong (kinds_of s)

  -- common types of these names stand for proper types
  pub record AreOver (names : Names) : Type 0 where
    pub over : (q : List ℕ) → Contains names q → IsOver (m q)

  abbrev IsProper : ResolvedType → Type 0
  IsProper type = IsResolvedType s type → AreOver (names_in type) → IsOver (expanded k m type)

  abbrev Known : Type 0
  Known = (type : ResolvedType) × IsProper type

  abbrev forget : ResolvedType-F Known → ResolvedType-F ResolvedType
  forget = map-ResolvedType Known ResolvedType (λ e. e.0)

  abbrev forget_fields : List (List ℕ × Presence × Known) → List Attribute
  forget_fields = map (λ (e : List ℕ × Presence × Known). (e.0, e.1, e.2.0))

  abbrev names_of : List Attribute → Names
  names_of fields = flat_map (λ (a : List ℕ × Presence × Names). a.2) (map (λ (a : Attribute). (a.0, a.1, names_in a.2)) fields)

  proper_fields : (es : List (List ℕ × Presence × Known)) → AllByRecursion (λ (a : Attribute). IsResolvedType s a.2) (forget_fields es) → AreOver (names_of (forget_fields es))
      → AllByRecursion (λ (f : List ℕ × Presence × Ty). IsOver f.2) (fields_of k m (forget_fields es))
  proper_fields [] all h = tt
  proper_fields (e ∷ es) all h = (
    e.2.1 all.0 (record { over = λ q has. h.over q (Contains-append_left (names_in e.2.0) (names_of (forget_fields es)) q has) }),
    proper_fields es all.1 (record { over = λ q has. h.over q (Contains-append_right (names_in e.2.0) (names_of (forget_fields es)) q has) }),
  )

  proper_record : (es : List (List ℕ × Presence × Known)) → IsResolvedType s (roll-ResolvedType (r.Record (forget_fields es))) → AreOver (names_of (forget_fields es)) → IsOver (expand_step k m (r.Record (fields_of k m (forget_fields es))))
  proper_record es h over =
      let names : field_names (forget_fields es) ≡ names_of_fields (fields_of k m (forget_fields es)) = same_names k m (forget_fields es) in
      let level = at_level (IsResolvedLevel s) (r.Record (forget_fields es)) h in
      every_Record (IsLevelOver (Contains k)) (fields_of k m (forget_fields es)) (subst AreAscending names level.0, subst (AllByRecursion IsUtf8) names level.1)
      (proper_fields es (in_Record (IsResolvedLevel s) (forget_fields es) h) over)

  proper_step : (y : ResolvedType-F Known) → IsResolvedType s (roll-ResolvedType (forget y)) → AreOver (names_step (map-ResolvedType ResolvedType Names names_in (forget y))) → IsOver (expand_step k m (map-ResolvedType ResolvedType Ty (expanded k m) (forget y)))
  proper_step r.Boolean h over = every_Bool (IsLevelOver (Contains k)) tt
  proper_step r.Long h over = every_Long (IsLevelOver (Contains k)) tt
  proper_step r.String h over = every_String (IsLevelOver (Contains k)) tt
  proper_step r.Decimal h over = every_Decimal (IsLevelOver (Contains k)) tt
  proper_step r.Ip h over = every_Ip (IsLevelOver (Contains k)) tt
  proper_step (r.Entity name) h over = every_Entity (IsLevelOver (Contains k)) (kind_among k name) (declared_kind s name (at_level (IsResolvedLevel s) (r.Entity name) h))
  proper_step (r.Set e) h over = every_Set (IsLevelOver (Contains k)) (expanded k m e.0) tt (e.1 (in_Set (IsResolvedLevel s) e.0 h) over)
  proper_step (r.Record es) h over = proper_record es h over
  proper_step (r.Common name) h over = over.over name (contains_first name [])

  proper_layer : (y : ResolvedType-F Known) → IsProper (roll-ResolvedType (forget y))
  proper_layer y h over = subst IsOver (sym (expanded-roll k m (forget y))) (proper_step y h (subst AreOver (names-roll (forget y)) over))

  pub proper_expanded : (type : ResolvedType) → IsResolvedType s type → AreOver (names_in type) → IsOver (expanded k m type)
  proper_expanded = ind-ResolvedType IsProper (λ x y e. subst (λ (z : ResolvedType-F ResolvedType). IsProper (roll-ResolvedType z)) e (proper_layer y))
