-- What holds of each schema whose common types are written out: what it names is declared, each declaration has a
-- name of its own, shapes and contexts are record types, and no type is larger than a type may be.
use Rattle.std.specs.Prelude.{◌≡◌, ◌≢◌, ℕ, List, [], map, Contains, false, IfSome}
use Rattle.std.specs.List.{AllByRecursion, list_any, IsDistinct}
use Rattle.std.specs.Str.{IsUtf8, bytes_eq}
use Rattle.sc_names.specs.declared.uid.Uid.{Uid}
use Rattle.sc_schema.specs.declared.ty.EntityKind.{EntityKind}
use Rattle.sc_schema.specs.declared.ty.Ty.{Ty}
use Rattle.sc_schema.specs.Declarations.{uid_eq}
use Rattle.sc_schema.specs.Lawful.{AreChoices, IsBare, IsTypeOver, IsRecordTypeOver}
use Rattle.sc_schema.specs.Sizes.{IsSmall}
use Rattle.sc_schema.specs.declared.expanded.ExpandedAction.{ExpandedAction}
use Rattle.sc_schema.specs.declared.expanded.ExpandedEntityType.{ExpandedEntityType}
use Rattle.sc_schema.specs.declared.expanded.ExpandedSchema.{ExpandedSchema}
use Rattle.sc_schema.specs.Resolved.{AreDeclared}

abbrev pub expanded_names : ExpandedSchema → List (List ℕ)
expanded_names x = map (λ (e : ExpandedEntityType). e.name) x.entity_types

abbrev pub expanded_uids : ExpandedSchema → List Uid
expanded_uids x = map (λ (a : ExpandedAction). a.uid) x.actions

-- the declared entity types, each with its choices
abbrev pub expanded_kinds : ExpandedSchema → List EntityKind
expanded_kinds x = map (λ (e : ExpandedEntityType). record { name = e.name; choices = e.choices }) x.entity_types

-- a type over these entity types
abbrev pub IsTypeAmong : List EntityKind → Ty → Type 0
IsTypeAmong kinds = IsTypeOver (Contains kinds)

-- a record type over these entity types
abbrev pub IsRecordTypeAmong : List EntityKind → Ty → Type 0
IsRecordTypeAmong kinds = IsRecordTypeOver (Contains kinds)

pub record IsExpandedEntityType (x : ExpandedSchema) (e : ExpandedEntityType) : Type 0 where
  pub text : IsUtf8 e.name
  pub above : AreDeclared (expanded_names x) e.parents
  pub shape_type : IsRecordTypeAmong (expanded_kinds x) e.shape
  pub shape_size : IsSmall e.shape
  pub tag_type : IfSome e.tags (IsTypeAmong (expanded_kinds x))
  pub tag_size : IfSome e.tags IsSmall
  pub ids : AreChoices e.choices
  pub bare : e.choices ≢ [] → IsBare e.shape e.tags e.parents

pub record IsExpandedAction (x : ExpandedSchema) (a : ExpandedAction) : Type 0 where
  pub type_text : IsUtf8 a.uid.type_name
  pub id_text : IsUtf8 a.uid.id
  pub above : AllByRecursion (Contains (expanded_uids x)) a.parents
  pub principal_types : AreDeclared (expanded_names x) a.principals
  pub resource_types : AreDeclared (expanded_names x) a.resources
  pub context_type : IsRecordTypeAmong (expanded_kinds x) a.context
  pub context_size : IsSmall a.context

-- each name is declared, and each declaration has a name of its own, which is no type of actions
pub record IsExpanded (x : ExpandedSchema) : Type 0 where
  pub types_distinct : IsDistinct bytes_eq (expanded_names x)
  pub actions_distinct : IsDistinct uid_eq (expanded_uids x)
  pub no_action : AllByRecursion
      (λ (name : List ℕ). list_any (λ (u : Uid). bytes_eq name u.type_name) (expanded_uids x) ≡ false)
      (expanded_names x)
  pub each_type : AllByRecursion (IsExpandedEntityType x) x.entity_types
  pub each_action : AllByRecursion (IsExpandedAction x) x.actions
