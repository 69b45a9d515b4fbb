-- Types of attributes and of contexts are record types, and a value of such a type is its fields.
use Rattle.std.proofs.Common.{◌≡◌, cond, ℕ, Bool, true, false, List, [], map, Option, Some, option_map, Contains, refl, sym, ap, ◌∙◌, subst}
use Rattle.sc_lists.proofs.ListLaws.{contains_from_map, joined_from}
use Rattle.sc_laws.proofs.OptionLaws.{same_some, some_of, option_map_some}
use Rattle.sc_names.specs.declared.uid.Uid.{Uid}
use Rattle.sc_schema.specs.declared.declarations.Action.{Action}
use Rattle.sc_schema.specs.declared.declarations.EntityType.{EntityType}
use Rattle.sc_schema.specs.declared.declarations.Env.{Env}
use Rattle.sc_schema.specs.declared.ty.Ty.{Ty}
use Rattle.sc_schema.specs.declared.ty.Ty.TheVariants as ty
use Rattle.sc_schema.specs.Declarations.{Declarations, action, attrs_of, context_of, entity_type, is_action_type, environment, environments, environments_for}
use Rattle.sc_schema.specs.Lawful.{IsLawful, IsRecordTypeOf, IsEntityType}
use Rattle.sc_schema.proofs.LawfulLaws.{no_fields_lawful}
use Rattle.sc_schema.proofs.LookupLaws.{action_declared, action_found}
use Rattle.sc_values.specs.declared.value.Value.{Value, Value-F, out-Value}
use Rattle.sc_values.specs.declared.value.Value.TheOpen as v
use Rattle.sc_values.proofs.OutLaws as out
use Rattle.sc_world.specs.Defaults.{default_value, default_attrs, default_fields, fields_in}
use Rattle.sc_sorts.specs.declared.sort.Sort.{Sort}
use Rattle.sc_sorts.specs.declared.sort.Sort.TheVariants as sort
use Rattle.sc_sorts.specs.Defaults.{default_of}
use Rattle.sc_sorts.specs.Entities.{choices_of}
use Rattle.sc_sorts.specs.Inside.{SortFields}
use Rattle.sc_sorts.specs.OfTypes.{sort_of, field_sort}
use Rattle.sc_sorts.proofs.DefaultLaws as plain
use Rattle.sc_sorts.proofs.OfTypesLaws.{sort_of_Record}
use Rattle.sc_terms.specs.Values.{fields_seen}
use Rattle.sc_term_laws.proofs.DefaultTypeLaws.{default_agrees}
use Rattle.sc_term_laws.proofs.SortsLawful.{bare_type, lawful_type, lawful_action}

module _ (d : Declarations) (lawful : IsLawful d) where
  -- ---- types of attributes

  shape_of : (name : List ℕ) (t : Ty) → option_map (λ (x : EntityType). x.shape) (entity_type d name) ≡ Some t → IsRecordTypeOf d t
  shape_of name t e =
      let x = option_map_some (λ (x : EntityType). x.shape) (entity_type d name) t e in
      subst (IsRecordTypeOf d) x.2 (lawful_type d lawful name x.0 x.1).0.shape_type

  attributes_by : (b : Bool) (name : List ℕ) (t : Ty) → cond b (Some (ty.Record [])) (option_map (λ (x : EntityType). x.shape) (entity_type d name)) ≡ Some t → IsRecordTypeOf d t
  attributes_by true name t e = subst (IsRecordTypeOf d) (same_some e) (no_fields_lawful d)
  attributes_by false name t e = shape_of name t e

  pub attributes_type : (name : List ℕ) (t : Ty) → attrs_of d name ≡ Some t → IsRecordTypeOf d t
  attributes_type name t e = attributes_by (is_action_type d name) name t e

  pub action_attributes : (name : List ℕ) → is_action_type d name ≡ true → attrs_of d name ≡ Some (ty.Record [])
  action_attributes name e = ap (λ (b : Bool). cond b (Some (ty.Record [])) (option_map (λ (x : EntityType). x.shape) (entity_type d name))) e

  -- a declared type of entities has attributes
  pub has_attributes : (name : List ℕ) → is_action_type d name ≡ false → IsEntityType d name → (t : Ty) × (attrs_of d name ≡ Some t)
  has_attributes name n h =
      let x = some_of (entity_type d name) h in
      (x.0.shape, ap (λ (b : Bool). cond b (Some (ty.Record [])) (option_map (λ (x : EntityType). x.shape) (entity_type d name))) n ∙ ap (option_map (λ (x : EntityType). x.shape)) x.1)

  -- ---- types of contexts

  pub context_type : (u : Uid) (t : Ty) → context_of d u ≡ Some t → IsRecordTypeOf d t
  context_type u t e =
      let a = option_map_some (λ (a : Action). a.context) (action d u) t e in
      subst (IsRecordTypeOf d) a.2 (lawful_action d lawful a.0 (action_declared d u a.0 a.1).0).context_type

  -- an environment's action has a context
  pub has_context : (env : Env) → Contains (environments d) env → (t : Ty) × (context_of d env.action ≡ Some t)
  has_context env among =
      let a = joined_from environments_for d.actions env among in
      let p = joined_from (λ p. map (environment a.0 p) a.0.resources) a.0.principals env a.2 in
      let r = contains_from_map (environment a.0 p.0) a.0.resources env p.2 in
      (a.0.context, ap (λ (u : Uid). option_map (λ (b : Action). b.context) (action d u)) (ap (λ (e : Env). e.action) (sym r.2)) ∙ ap (option_map (λ (b : Action). b.context)) (action_found d a.0 lawful a.1))

  -- ---- defaults of record types

  same_fields : (y : Value-F Value) → fields_in y ≡ fields_seen y
  same_fields (v.Bool b) = refl
  same_fields (v.Long n) = refl
  same_fields (v.String t) = refl
  same_fields (v.Entity u) = refl
  same_fields (v.Set xs) = refl
  same_fields (v.Record fs) = refl
  same_fields (v.Decimal n) = refl
  same_fields (v.Ip a) = refl

  pub default_seen : (o : Option Ty) (t : Ty) → o ≡ Some t → IsRecordTypeOf d t → default_fields d o ≡ fields_seen (out-Value (default_of (sort_of t)))
  default_seen o t e of_record =
      ap (default_fields d) e ∙ same_fields (out-Value (default_value d t)) ∙ ap (λ (x : Value). fields_seen (out-Value x)) (sym (default_agrees d lawful t of_record.proper))

  -- of entities that their types list: actions, and choices
  no_field_sort : sort_of (ty.Record []) ≡ sort.Record []
  no_field_sort = sort_of_Record []

  listed_attributes : (name : List ℕ) → (choices_of d name ≡ [] → ⊥) → attrs_of d name ≡ Some (ty.Record [])
  listed_attributes name some = by (is_action_type d name) refl
    where
      by : (b : Bool) → is_action_type d name ≡ b → attrs_of d name ≡ Some (ty.Record [])
      by true e = action_attributes name e
      by false e =
          let it = bare_type d lawful name e some in
          ap (λ (b : Bool). cond b (Some (ty.Record [])) (option_map (λ (x : EntityType). x.shape) (entity_type d name))) e
          ∙ ap (option_map (λ (x : EntityType). x.shape)) it.found ∙ ap (λ (t : Ty). Some t) it.bare.attributes

  pub listed_sort : (name : List ℕ) (t : Ty) → (choices_of d name ≡ [] → ⊥) → attrs_of d name ≡ Some t → sort_of t ≡ sort.Record []
  listed_sort name t some e = ap sort_of (sym (same_some (sym (listed_attributes name some) ∙ e))) ∙ no_field_sort

  pub no_attributes : (name : List ℕ) → (choices_of d name ≡ [] → ⊥) → default_attrs d name ≡ []
  no_attributes name some =
      default_seen (attrs_of d name) (ty.Record []) (listed_attributes name some) (no_fields_lawful d)
      ∙ ap (λ (k : Sort). fields_seen (out-Value (default_of k))) no_field_sort
      ∙ ap (λ (x : Value). fields_seen (out-Value x)) (plain.default_Record [])
      ∙ ap fields_seen (out.out_Record [])

-- the sort of a record type
pub record_sort : (d : Declarations) (t : Ty) → IsRecordTypeOf d t → (fs : SortFields) × (sort_of t ≡ sort.Record fs)
record_sort d t h = (map field_sort h.fields, ap sort_of h.record_type ∙ sort_of_Record h.fields)
