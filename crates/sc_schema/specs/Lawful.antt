-- What holds of each schema: what it lists ascends, what it names is declared, ancestors of ancestors are ancestors,
-- shapes and contexts are record types, and no type is larger than a type may be.
use Rattle.std.specs.Prelude.{◌≡◌, ◌≢◌, ◌≤◌, ℕ, List, [], length, map, unwrap_or, Contains, false, Option, None, IsSome, IfSome, ⊤}
use Rattle.std.specs.List.{AllByRecursion, IsDistinct}
use Rattle.std.specs.List.Sorted.{IsStrictlySortedBy}
use Rattle.std.specs.Str.{IsUtf8, bytes_eq}
use Rattle.sc_names.specs.declared.uid.Uid.{Uid}
use Rattle.sc_names.specs.Uids.{text_cmp, uid_cmp}
use Rattle.sc_schema.specs.declared.ty.Presence.{Presence}
use Rattle.sc_schema.specs.declared.ty.EntityKind.{EntityKind}
use Rattle.sc_schema.specs.declared.ty.Ty.{Ty, Ty-F, every-Ty}
use Rattle.sc_schema.specs.declared.ty.Ty.TheOpen as t
use Rattle.sc_schema.specs.declared.ty.Ty.TheVariants.{Record}
use Rattle.sc_schema.specs.declared.declarations.EntityType.{EntityType}
use Rattle.sc_schema.specs.declared.declarations.Action.{Action}
use Rattle.sc_schema.specs.Declarations.{Declarations, entity_types, action_uids, entity_type, choices_of, action, is_action_type, ancestor_types, action_ancestors}
use Rattle.sc_schema.specs.Sizes.{IsSmall}

-- names in ascending order, each once
abbrev pub AreAscending : List (List ℕ) → Type 0
AreAscending = IsStrictlySortedBy text_cmp

-- an entity type is declared
abbrev pub IsEntityType : Declarations → List ℕ → Type 0
IsEntityType s name = IsSome (entity_type s name)

abbrev pub names_of_fields : List (List ℕ × Presence × Ty) → List (List ℕ)
names_of_fields = map (λ (f : List ℕ × Presence × Ty). f.0)

-- a type, but for the types inside it: the entity type that it names is one of these, and its fields ascend
abbrev pub IsLevelOver : (EntityKind → Type 0) → Ty-F Ty → Type 0
IsLevelOver known t.True = ⊥
IsLevelOver known t.False = ⊥
IsLevelOver known t.Bool = ⊤
IsLevelOver known t.Long = ⊤
IsLevelOver known t.String = ⊤
IsLevelOver known t.Decimal = ⊤
IsLevelOver known t.Ip = ⊤
IsLevelOver known (t.Entity kind) = known kind
IsLevelOver known (t.Set member) = ⊤
IsLevelOver known (t.Record fields) =
    AreAscending (names_of_fields fields) × AllByRecursion IsUtf8 (names_of_fields fields)

-- a type over these entity types
abbrev pub IsTypeOver : (EntityKind → Type 0) → Ty → Type 0
IsTypeOver known = every-Ty (IsLevelOver known)

-- a record type over these entity types
pub record IsRecordTypeOver (known : EntityKind → Type 0) (type : Ty) : Type 0 where
  pub fields : List (List ℕ × Presence × Ty)
  pub record_type : type ≡ Record fields
  pub proper : IsTypeOver known type

-- a declared entity type, with the choices that it has
abbrev pub IsEntityKind : Declarations → EntityKind → Type 0
IsEntityKind s kind = IsEntityType s kind.name × (kind.choices ≡ choices_of s kind.name)

-- the same over the entity types that a schema declares
abbrev pub IsTypeLevel : Declarations → Ty-F Ty → Type 0
IsTypeLevel s = IsLevelOver (IsEntityKind s)

-- a type that a schema may write
abbrev pub IsTypeOf : Declarations → Ty → Type 0
IsTypeOf s = IsTypeOver (IsEntityKind s)

-- a record type that a schema may write
abbrev pub IsRecordTypeOf : Declarations → Ty → Type 0
IsRecordTypeOf s = IsRecordTypeOver (IsEntityKind s)

-- names of declared entity types, in ascending order, each once
pub record AreEntityTypes (s : Declarations) (names : List (List ℕ)) : Type 0 where
  pub ascending : AreAscending names
  pub declared : AllByRecursion (IsEntityType s) names

-- the types that an ancestor's ancestors may have are among these
abbrev pub IsTypeWithin : Declarations → List (List ℕ) → List ℕ → Type 0
IsTypeWithin s names name = AllByRecursion (Contains names) (unwrap_or (ancestor_types s name) [])

-- the choices of a type: at most 1,000 texts, each once
pub record AreChoices (ids : List (List ℕ)) : Type 0 where
  pub texts : AllByRecursion IsUtf8 ids
  pub distinct : IsDistinct bytes_eq ids
  pub few : length ids ≤ 1000

-- entities of an enumerated type have no attributes, tags or ancestors
pub record IsBare (shape : Ty) (tags : Option Ty) (above : List (List ℕ)) : Type 0 where
  pub attributes : shape ≡ Record []
  pub tagless : tags ≡ None
  pub apart : above ≡ []

pub record IsLawfulType (s : Declarations) (t : EntityType) : Type 0 where
  pub text : IsUtf8 t.name
  pub no_action : is_action_type s t.name ≡ false
  pub above : AreEntityTypes s t.ancestors
  pub closed : AllByRecursion (IsTypeWithin s t.ancestors) t.ancestors
  pub shape_type : IsRecordTypeOf s t.shape
  pub shape_size : IsSmall t.shape
  pub tag_type : IfSome t.tags (IsTypeOf s)
  pub tag_size : IfSome t.tags IsSmall
  pub ids : AreChoices t.choices
  pub bare : t.choices ≢ [] → IsBare t.shape t.tags t.ancestors

-- the actions that an ancestor is in are among these
abbrev pub IsActionWithin : Declarations → List Uid → Uid → Type 0
IsActionWithin s uids u = AllByRecursion (Contains uids) (unwrap_or (action_ancestors s u) [])

pub record IsLawfulAction (s : Declarations) (a : Action) : Type 0 where
  pub type_text : IsUtf8 a.uid.type_name
  pub id_text : IsUtf8 a.uid.id
  pub ascending : IsStrictlySortedBy uid_cmp a.ancestors
  pub declared : AllByRecursion (λ u. IsSome (action s u)) a.ancestors
  pub closed : AllByRecursion (IsActionWithin s a.ancestors) a.ancestors
  pub acyclic : ¬ Contains a.ancestors a.uid
  pub principal_types : AreEntityTypes s a.principals
  pub resource_types : AreEntityTypes s a.resources
  pub context_type : IsRecordTypeOf s a.context
  pub context_size : IsSmall a.context

-- what holds of each schema
pub record IsLawful (s : Declarations) : Type 0 where
  pub types_ascend : AreAscending (entity_types s)
  pub actions_ascend : IsStrictlySortedBy uid_cmp (action_uids s)
  pub each_type : AllByRecursion (IsLawfulType s) s.types
  pub each_action : AllByRecursion (IsLawfulAction s) s.actions
