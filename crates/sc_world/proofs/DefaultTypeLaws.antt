-- The default of a type that a schema writes is a value, and of the type.
use Rattle.std.proofs.Common.{◌≡◌, ℕ, List, [], ◌∷◌, map, find, Bool, true, false, Option, Some, None, unwrap_or, cond, FitsSigned, pos, refl, ap, sym, subst, ◌∙◌, arith}
use Rattle.std.specs.Int.{w64}
use Rattle.std.specs.List.{AllByRecursion, flat_map}
use Rattle.std.specs.Str.{bytes_eq, IsUtf8}
use Rattle.std.proofs.lemmas.List.Folds.{flat_map-map}
use Rattle.std.proofs.lemmas.Bool.{and_from}
use Rattle.std.proofs.lemmas.Slice.Eq.{bytes_eq-Decides}
use Rattle.sc_lists.proofs.ListLaws.{all_element}
use Rattle.sc_laws.proofs.OptionLaws.{some_of}
use Rattle.sc_ip.specs.declared.ip.Ip.TheVariants.{V4}
use Rattle.sc_names.specs.declared.uid.Uid.{Uid}
use Rattle.sc_schema.specs.declared.declarations.Action.{Action}
use Rattle.sc_schema.specs.declared.declarations.EntityType.{EntityType}
use Rattle.sc_schema.specs.declared.ty.Presence.{Presence}
use Rattle.sc_schema.specs.declared.ty.Ty.{Ty, Ty-F, roll-Ty, map-Ty, ind-Ty, fold-roll-Ty}
use Rattle.sc_schema.specs.declared.ty.Ty.TheOpen as t
use Rattle.sc_schema.specs.Declarations.{Declarations, entity_type, action_uids, choices_of, is_action_type}
use Rattle.sc_schema.specs.Lawful.{AreAscending, names_of_fields, IsEntityType, IsTypeLevel, IsTypeOf, IsLawful, IsLawfulAction, IsLawfulType}
use Rattle.sc_schema.proofs.LawfulLaws.{ascii_text, sorted}
use Rattle.sc_schema.proofs.LookupLaws.{type_declared}
use Rattle.sc_values.specs.declared.value.Value.{Value, out-Value}
use Rattle.sc_values.specs.declared.value.Value.TheVariants as value
use Rattle.sc_values.specs.Order.{value_cmp}
use Rattle.sc_values.specs.Proper.{IsProper, IsProperLevel, IsUidText}
use Rattle.sc_values.specs.Records.{Fields}
use Rattle.sc_values.proofs.EveryLaws as every
use Rattle.sc_values.proofs.OutLaws.{out_Bool, out_Long, out_String, out_Entity, out_Set, out_Record, out_Decimal, out_Ip}
use Rattle.sc_world.specs.Choices.{is_choice}
use Rattle.sc_world.specs.Conforms.{Test, conforms, conforms_step, is_bool, is_truth, is_long, is_string, is_decimal, is_ip, is_entity_of, is_set_of, is_record_of, has_shape, shape_of}
use Rattle.sc_world.specs.Defaults.{default_uid, default_value, default_step, default_field, first_entity}
use Rattle.sc_world.proofs.ConformsLaws.{has_shape_tested}
use Rattle.sc_world.proofs.ChoiceLaws.{first_type, first_text, first_choice, choice_texts}
use Rattle.sc_world.proofs.DefaultLaws.{Attribute, required_fields, no_action}
use Rattle.sc_world.proofs.RequiredLaws.{fields-all, names-all, names-ascend, required_pass, required_declared}
use Rattle.sc_world.proofs.TypeLaws as of_type

-- ---- the default entity of a type

found_or : (P : Uid → Type 0) (o : Option Uid) (u : Uid) → ((v : Uid) → o ≡ Some v → P v) → P u → P (unwrap_or o u)
found_or P None u f h = h
found_or P (Some v) u f h = f v refl

named_at : (name : List ℕ) (u v : Uid) (b : Bool) (rest : Option Uid) → bytes_eq name u.type_name ≡ b → (rest ≡ Some v → v.type_name ≡ name) → cond b (Some u) rest ≡ Some v → v.type_name ≡ name
named_at name u v true rest is later e = let one : u ≡ v = cc in ap (λ (x : Uid). x.type_name) (sym one) ∙ sym ((bytes_eq-Decides name u.type_name).0 is)
named_at name u v false rest is later e = later e

named_by : (name : List ℕ) (us : List Uid) (v : Uid) → find (λ (u : Uid). bytes_eq name u.type_name) us ≡ Some v → v.type_name ≡ name
named_by name [] v e = absurd cc
named_by name (u ∷ us) v e = named_at name u v (bytes_eq name u.type_name) _ refl (named_by name us v) e

pub default_uid-type : (s : Declarations) (name : List ℕ) → (default_uid s name).type_name ≡ name
default_uid-type s name = found_or (λ u. u.type_name ≡ name) _ (first_entity name (choices_of s name)) (named_by name (action_uids s)) (first_type name (choices_of s name))

found_at : (P : Uid → Type 0) (u v : Uid) (b : Bool) (rest : Option Uid) → P u → (rest ≡ Some v → P v) → cond b (Some u) rest ≡ Some v → P v
found_at P u v true rest h later e = let one : u ≡ v = cc in subst P one h
found_at P u v false rest h later e = later e

found_all : (P : Uid → Type 0) (test : Uid → Bool) (us : List Uid) (v : Uid) → AllByRecursion P us → find test us ≡ Some v → P v
found_all P test [] v h e = absurd cc
found_all P test (u ∷ us) v h e = found_at P u v (test u) _ h.0 (found_all P test us v h.1) e

action_texts : (s : Declarations) (actions : List Action) → AllByRecursion (IsLawfulAction s) actions → AllByRecursion IsUidText (map (λ (a : Action). a.uid) actions)
action_texts s [] h = tt
action_texts s (a ∷ actions) h = ((h.0.type_text, h.0.id_text), action_texts s actions h.1)

pub default_uid-text : (s : Declarations) (name : List ℕ) → IsLawful s → IsUtf8 name → IsUidText (default_uid s name)
default_uid-text s name lawful text =
    found_or IsUidText (find (λ (u : Uid). bytes_eq name u.type_name) (action_uids s)) (first_entity name (choices_of s name))
    (λ v e. found_all IsUidText (λ (u : Uid). bytes_eq name u.type_name) (action_uids s) v (action_texts s s.actions lawful.each_action) e)
    (first_text name (choices_of s name) text (choice_texts s lawful name))

-- ---- declared types

-- an entity type that is declared
pub record IsTypeNamed (s : Declarations) (name : List ℕ) : Type 0 where
  pub type : EntityType
  pub found : entity_type s name ≡ Some type
  pub named : name ≡ type.name
  pub lawful : IsLawfulType s type

pub type_named : (s : Declarations) (name : List ℕ) → IsLawful s → IsEntityType s name → IsTypeNamed s name
type_named s name lawful declared =
    let found = some_of (entity_type s name) declared in
    let there = type_declared s name found.0 found.1 in
    record { type = found.0; found = found.1; named = there.1; lawful = all_element (IsLawfulType s) s.types found.0 lawful.each_type there.0 }

pub type_text : (s : Declarations) (name : List ℕ) → IsLawful s → IsEntityType s name → IsUtf8 name
type_text s name lawful declared =
    let it = type_named s name lawful declared in
    subst IsUtf8 (sym it.named) it.lawful.text

-- the default entity of an entity type is a choice, if the type is enumerated
pub default_choice : (s : Declarations) (name : List ℕ) → IsLawful s → IsEntityType s name → is_choice (choices_of s name) (default_uid s name).id ≡ true
default_choice s name lawful declared =
    let it = type_named s name lawful declared in
    let plain : is_action_type s name ≡ false = ap (is_action_type s) it.named ∙ it.lawful.no_action in
    subst (λ (o : Option Uid). is_choice (choices_of s name) (unwrap_or o (first_entity name (choices_of s name))).id ≡ true)
    (no_action s name (is_action_type s name) refl plain) (first_choice name (choices_of s name))

-- ---- types

-- what holds of the default of a type
pub record IsDefaultOf (type : Ty) (x : Value) : Type 0 where
  pub conform : conforms type x ≡ true
  pub proper : IsProper x

module _ (s : Declarations) (lawful : IsLawful s) where
  abbrev HasDefault : Ty → Type 0
  HasDefault type = IsTypeOf s type → IsDefaultOf type (default_value s type)

  abbrev Known : Type 0
  Known = (type : Ty) × HasDefault type

  abbrev forget : Ty-F Known → Ty-F Ty
  forget = map-Ty Known Ty (λ k. k.0)

  -- what holds of the first level
  record IsDefaultLevel (y : Ty-F Ty) : Type 0 where
    conform : conforms_step (map-Ty Ty Test conforms y) (default_step s (map-Ty Ty Value (default_value s) y)) ≡ true
    proper : IsProper (default_step s (map-Ty Ty Value (default_value s) y))

  abbrev KnownAttributes : Type 0
  KnownAttributes = List (List ℕ × Presence × Known)

  abbrev attributes_of : KnownAttributes → List Attribute
  attributes_of ks = map (λ (k : List ℕ × Presence × Known). (k.0, k.1, k.2.0)) ks

  each_default : (ks : KnownAttributes) → AllByRecursion (λ (a : Attribute). IsTypeOf s a.2) (attributes_of ks) → AllByRecursion (λ (a : Attribute). IsDefaultOf a.2 (default_value s a.2)) (attributes_of ks)
  each_default [] h = tt
  each_default (k ∷ ks) h = (k.2.1 h.0, each_default ks h.1)

  abbrev IsDefault : Attribute → Type 0
  IsDefault a = IsDefaultOf a.2 (default_value s a.2)

  weaker : (P : Attribute → Type 0) → ((a : Attribute) → IsDefault a → P a) → (attributes : List Attribute) → AllByRecursion IsDefault attributes → AllByRecursion P attributes
  weaker P f [] h = tt
  weaker P f (a ∷ attributes) h = (f a h.0, weaker P f attributes h.1)

  record_conforms : (attributes : List Attribute) → AreAscending (names_of_fields attributes) → AllByRecursion IsDefault attributes → has_shape (shape_of attributes) (required_fields s attributes) ≡ true
  record_conforms attributes ascend each =
      sym (has_shape_tested attributes (required_fields s attributes) true true
      (sym (required_pass s attributes ascend (weaker _ (λ a d. d.conform) attributes each)))
      (sym (required_declared s attributes)))

  record_proper : (attributes : List Attribute) → AreAscending (names_of_fields attributes) → AllByRecursion IsUtf8 (names_of_fields attributes) → AllByRecursion IsDefault attributes
      → IsProper (value.Record (required_fields s attributes))
  record_proper attributes ascend texts each =
      every.every_Record IsProperLevel (required_fields s attributes)
      (names-ascend s attributes ascend, names-all s IsUtf8 attributes texts)
      (fields-all s (λ (f : List ℕ × Value). IsProper f.1) attributes (weaker _ (λ a d. d.proper) attributes each))

  -- the fields as the first level has them
  fields_at : (attributes : List Attribute) → flat_map (λ (f : List ℕ × Presence × Value). default_field f.1 f.0 f.2) (map (λ (a : Attribute). (a.0, a.1, default_value s a.2)) attributes) ≡ required_fields s attributes
  fields_at attributes = flat_map-map (λ (f : List ℕ × Presence × Value). default_field f.1 f.0 f.2) (λ (a : Attribute). (a.0, a.1, default_value s a.2)) attributes

  record_level : (attributes : List Attribute) → AreAscending (names_of_fields attributes) → AllByRecursion IsUtf8 (names_of_fields attributes) → AllByRecursion IsDefault attributes → IsDefaultLevel (t.Record attributes)
  record_level attributes ascend texts each =
      record {
        conform = ap (λ (fs : Fields). is_record_of (shape_of attributes) (out-Value (value.Record fs))) (fields_at attributes)
            ∙ ap (is_record_of (shape_of attributes)) (out_Record (required_fields s attributes))
            ∙ record_conforms attributes ascend each;
        proper = subst (λ (fs : Fields). IsProper (value.Record fs)) (sym (fields_at attributes)) (record_proper attributes ascend texts each);
      }

  zero_fits : FitsSigned w64 (pos 0)
  zero_fits = omega arith

  level : (y : Ty-F Known) → IsTypeOf s (roll-Ty (forget y)) → IsDefaultLevel (forget y)
  level t.True h = record { conform = ap (is_truth true) (out_Bool true); proper = every.every_Bool IsProperLevel true tt }
  level t.False h = record { conform = ap (is_truth false) (out_Bool false); proper = every.every_Bool IsProperLevel false tt }
  level t.Bool h = record { conform = ap is_bool (out_Bool false); proper = every.every_Bool IsProperLevel false tt }
  level t.Long h = record { conform = ap is_long (out_Long (pos 0)); proper = every.every_Long IsProperLevel (pos 0) zero_fits }
  level t.String h = record { conform = ap is_string (out_String []); proper = every.every_String IsProperLevel [] (ascii_text [] refl) }
  level t.Decimal h = record { conform = ap is_decimal (out_Decimal (pos 0)); proper = every.every_Decimal IsProperLevel (pos 0) zero_fits }
  level t.Ip h = record { conform = ap is_ip (out_Ip (V4 0 32)); proper = every.every_Ip IsProperLevel (V4 0 32) (omega arith, omega arith) }
  level (t.Entity kind) h =
      let declared = of_type.every_level (IsTypeLevel s) (t.Entity kind) h in
      let u = default_uid s kind.name in
      let named = (bytes_eq-Decides u.type_name kind.name).1 (default_uid-type s kind.name) in
      let chosen = subst (λ (ids : List (List ℕ)). is_choice ids u.id ≡ true) (sym declared.1) (default_choice s kind.name lawful declared.0) in
      record {
        conform = ap (is_entity_of kind) (out_Entity u) ∙ and_from _ _ named chosen;
        proper = every.every_Entity IsProperLevel u (default_uid-text s kind.name lawful (type_text s kind.name lawful declared.0));
      }
  level (t.Set k) h = record { conform = ap (is_set_of (conforms k.0)) (out_Set []); proper = every.every_Set IsProperLevel [] (sorted value_cmp [] refl) tt }
  level (t.Record ks) h =
      let here = of_type.every_level (IsTypeLevel s) (t.Record (attributes_of ks)) h in
      let each = each_default ks (of_type.every_field (IsTypeLevel s) (attributes_of ks) h) in
      record_level (attributes_of ks) here.0 here.1 each

  from_level : (y : Ty-F Ty) → IsDefaultLevel y → IsDefaultOf (roll-Ty y) (default_value s (roll-Ty y))
  unfolding conforms default_value
  from_level y h =
      let made = fold-roll-Ty Value (default_step s) y in
      let tests = fold-roll-Ty Test conforms_step y in
      record {
        conform = ap (λ f. f (default_value s (roll-Ty y))) tests ∙ ap (conforms_step (map-Ty Ty Test conforms y)) made ∙ h.conform;
        proper = subst IsProper (sym made) h.proper;
      }

  pub default_of : (type : Ty) → IsTypeOf s type → IsDefaultOf type (default_value s type)
  default_of = ind-Ty HasDefault (λ x y e. subst (λ z. HasDefault (roll-Ty z)) e (λ h. from_level (forget y) (level y h)))
