-- The default of a type's sort is the default of the type, for types that a schema writes.
use Rattle.std.proofs.Common.{◌≡◌, ◌||◌, ℕ, List, [], ◌∷◌, ◌++◌, map, find, cond, Bool, true, false, Option, Some, None, unwrap_or, refl, sym, ap, ◌∙◌, subst}
use Rattle.std.specs.List.{AllByRecursion, flat_map, list_any}
use Rattle.std.specs.Str.{bytes_eq}
use Rattle.std.proofs.lemmas.List.Elements.{All-contains, All-from_recursion}
use Rattle.sc_laws.proofs.OptionLaws.{some_of}
use Rattle.sc_names.specs.declared.uid.Uid.{Uid}
use Rattle.sc_schema.specs.declared.declarations.Action.{Action}
use Rattle.sc_schema.specs.declared.ty.EntityKind.{EntityKind}
use Rattle.sc_schema.specs.declared.ty.Presence.{Presence}
use Rattle.sc_schema.specs.declared.ty.Presence.TheVariants.{Required, Optional}
use Rattle.sc_schema.specs.declared.ty.Ty.{Ty, Ty-F, out-Ty, roll-Ty, map-Ty, ind-Ty, fold-roll-Ty, fold_out-Ty}
use Rattle.sc_schema.specs.declared.ty.Ty.TheOpen as t
use Rattle.sc_schema.specs.Declarations.{Declarations, entity_type, choices_of, is_action_type}
use Rattle.sc_schema.specs.Lawful.{IsTypeLevel, IsTypeOf, IsEntityKind, IsEntityType, IsLawful, IsLawfulType}
use Rattle.sc_schema.proofs.EveryTypeLaws as of_type
use Rattle.sc_schema.proofs.LookupLaws.{type_declared}
use Rattle.sc_values.specs.declared.value.Value.{Value}
use Rattle.sc_values.specs.declared.value.Value.TheVariants as value
use Rattle.sc_values.specs.Records.{Fields}
use Rattle.sc_world.specs.Defaults as world
use Rattle.sc_world.specs.Defaults.{default_value}
use Rattle.sc_sorts.specs.declared.sort.Sort.{Sort}
use Rattle.sc_sorts.specs.declared.sort.Sort.TheVariants as sort
use Rattle.sc_sorts.specs.Entities.{uid_of, uids_of}
use Rattle.sc_sorts.specs.OfTypes.{with_presence, sort_step, sort_of}
use Rattle.sc_sorts.specs.Defaults.{is_option_level, is_option, default_field, default_of, default_uid}
use Rattle.sc_sorts.proofs.OutLaws as out
use Rattle.sc_sorts.proofs.DefaultLaws.{default_fields, default_Bool, default_Long, default_String, default_Decimal, default_Ip, default_Entity, default_Set, default_Record}

abbrev Attribute : Type 0
Attribute = List ℕ × Presence × Ty

-- ---- no type has an option sort

step_no_option : (y : Ty-F Sort) → is_option (sort_step y) ≡ false
step_no_option t.True = ap (is_option_level Sort) out.out_Bool
step_no_option t.False = ap (is_option_level Sort) out.out_Bool
step_no_option t.Bool = ap (is_option_level Sort) out.out_Bool
step_no_option t.Long = ap (is_option_level Sort) out.out_Long
step_no_option t.String = ap (is_option_level Sort) out.out_String
step_no_option t.Decimal = ap (is_option_level Sort) out.out_Decimal
step_no_option t.Ip = ap (is_option_level Sort) out.out_Ip
step_no_option (t.Entity kind) = ap (is_option_level Sort) (out.out_Entity kind.name (uids_of kind))
step_no_option (t.Set member) = ap (is_option_level Sort) (out.out_Set member)
step_no_option (t.Record fields) = ap (is_option_level Sort) (out.out_Record _)

pub no_option : (x : Ty) → is_option (sort_of x) ≡ false
unfolding sort_of
no_option x = ap is_option (fold_out-Ty Sort sort_step x) ∙ step_no_option (map-Ty Ty Sort sort_of (out-Ty x))

-- ---- a declared entity type has no actions

passes_over : (b later : Bool) (u : Uid) (o : Option Uid) → (b || later) ≡ false → (later ≡ false → o ≡ None) → cond b (Some u) o ≡ None
passes_over true later u o h rest = absurd cc
passes_over false later u o h rest = rest h

none_among : (name : List ℕ) (actions : List Action) → list_any (λ (a : Action). bytes_eq name a.uid.type_name) actions ≡ false
    → find (λ (u : Uid). bytes_eq name u.type_name) (map (λ (a : Action). a.uid) actions) ≡ None
none_among name [] h = refl
none_among name (a ∷ actions) h = passes_over (bytes_eq name a.uid.type_name) _ a.uid _ h (none_among name actions)

-- the first of the entities with these ids
first_uid : (name : List ℕ) (ids : List (List ℕ)) → default_uid name (map (uid_of name) ids) ≡ world.first_entity name ids
first_uid name [] = refl
first_uid name (id ∷ ids) = refl

-- ---- types

module _ (s : Declarations) (lawful : IsLawful s) where
  pub no_action : (name : List ℕ) → IsEntityType s name → is_action_type s name ≡ false
  no_action name declared =
      let found = some_of (entity_type s name) declared in
      let there = type_declared s name found.0 found.1 in
      let h : IsLawfulType s found.0 = All-contains (IsLawfulType s) s.types found.0 (All-from_recursion (IsLawfulType s) s.types lawful.each_type) there.0 in
      ap (is_action_type s) there.1 ∙ h.no_action

  entity_default : (kind : EntityKind) → IsEntityKind s kind → default_of (sort.Entity kind.name (uids_of kind)) ≡ value.Entity (world.default_uid s kind.name)
  entity_default kind (declared, chosen) =
      default_Entity kind.name (uids_of kind)
      ∙ ap value.Entity (
      first_uid kind.name kind.choices
      ∙ ap (world.first_entity kind.name) chosen
      ∙ sym (ap (λ (o : Option Uid). unwrap_or o (world.first_entity kind.name (choices_of s kind.name))) (none_among kind.name s.actions (no_action kind.name declared))))

  abbrev Agrees : Ty → Type 0
  Agrees x = IsTypeOf s x → default_of (sort_of x) ≡ world.default_value s x

  abbrev Known : Type 0
  Known = (x : Ty) × Agrees x

  abbrev forget : Ty-F Known → Ty-F Ty
  forget = map-Ty Known Ty (λ k. k.0)

  field_agrees : (name : List ℕ) (p : Presence) (x : Ty) → default_of (sort_of x) ≡ world.default_value s x
      → default_field name (is_option (with_presence p (sort_of x))) (default_of (with_presence p (sort_of x))) ≡ world.default_field p name (world.default_value s x)
  field_agrees name Required x e =
      ap (λ (b : Bool). default_field name b (default_of (sort_of x))) (no_option x) ∙ ap (world.default_field Required name) e
  field_agrees name Optional x e =
      ap (λ (b : Bool). default_field name b (default_of (sort.Option (sort_of x)))) (ap (is_option_level Sort) (out.out_Option (sort_of x)))

  abbrev attributes_of : List (List ℕ × Presence × Known) → List Attribute
  attributes_of ks = map (λ (k : List ℕ × Presence × Known). (k.0, k.1, k.2.0)) ks

  -- the fields, as the first level has them
  abbrev sorts_at : List Attribute → List (List ℕ × Sort)
  sorts_at attributes = map (λ (f : List ℕ × Presence × Sort). (f.0, with_presence f.1 f.2)) (map (λ (a : Attribute). (a.0, a.1, sort_of a.2)) attributes)

  abbrev defaults_at : List Attribute → Fields
  defaults_at attributes =
      flat_map (λ (f : List ℕ × Presence × Value). world.default_field f.1 f.0 f.2) (map (λ (a : Attribute). (a.0, a.1, world.default_value s a.2)) attributes)

  fields_agree : (ks : List (List ℕ × Presence × Known)) → AllByRecursion (λ (a : Attribute). IsTypeOf s a.2) (attributes_of ks) → default_fields (sorts_at (attributes_of ks)) ≡ defaults_at (attributes_of ks)
  fields_agree [] h = refl
  fields_agree (k ∷ ks) h =
      let first = field_agrees k.0 k.1 k.2.0 (k.2.1 h.0) in
      let rest = fields_agree ks h.1 in
      λ i. first i ++ rest i

  level : (y : Ty-F Known) → IsTypeOf s (roll-Ty (forget y)) → default_of (sort_step (map-Ty Ty Sort sort_of (forget y))) ≡ world.default_step s (map-Ty Ty Value (world.default_value s) (forget y))
  level t.True h = absurd (of_type.every_level (IsTypeLevel s) t.True h)
  level t.False h = absurd (of_type.every_level (IsTypeLevel s) t.False h)
  level t.Bool h = default_Bool
  level t.Long h = default_Long
  level t.String h = default_String
  level t.Decimal h = default_Decimal
  level t.Ip h = default_Ip
  level (t.Entity kind) h = entity_default kind (of_type.every_level (IsTypeLevel s) (t.Entity kind) h)
  level (t.Set k) h = default_Set (sort_of k.0)
  level (t.Record ks) h =
      default_Record (sorts_at (attributes_of ks)) ∙ ap value.Record (fields_agree ks (of_type.every_field (IsTypeLevel s) (attributes_of ks) h))

  from_level : (y : Ty-F Ty) → default_of (sort_step (map-Ty Ty Sort sort_of y)) ≡ world.default_step s (map-Ty Ty Value (world.default_value s) y) → default_of (sort_of (roll-Ty y)) ≡ world.default_value s (roll-Ty y)
  unfolding sort_of default_value
  from_level y h = ap default_of (fold-roll-Ty Sort sort_step y) ∙ h ∙ sym (fold-roll-Ty Value (world.default_step s) y)

  pub default_agrees : (x : Ty) → IsTypeOf s x → default_of (sort_of x) ≡ world.default_value s x
  default_agrees = ind-Ty Agrees (λ x y e. subst (λ z. Agrees (roll-Ty z)) e (λ h. from_level (forget y) (level y h)))
