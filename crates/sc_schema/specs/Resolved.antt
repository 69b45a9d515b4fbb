-- What holds of each schema whose names are looked up: what it names is declared, and each declaration has a name of
-- its own.
use Rattle.std.specs.Prelude.{◌≡◌, ◌≢◌, ℕ, List, [], map, Contains, false, None, IfSome, ⊤}
use Rattle.std.specs.List.{AllByRecursion, flat_map, list_any, IsDistinct}
use Rattle.std.specs.Str.{IsUtf8, bytes_eq}
use Rattle.sc_names.specs.declared.uid.Uid.{Uid}
use Rattle.sc_schema.specs.declared.ty.Presence.{Presence}
use Rattle.sc_schema.specs.Declarations.{uid_eq}
use Rattle.sc_schema.specs.Lawful.{AreAscending, AreChoices}
use Rattle.sc_schema.specs.declared.resolved_action.ResolvedAction.{ResolvedAction}
use Rattle.sc_schema.specs.declared.resolved_common_type.ResolvedCommonType.{ResolvedCommonType}
use Rattle.sc_schema.specs.declared.resolved_entity_type.ResolvedEntityType.{ResolvedEntityType}
use Rattle.sc_schema.specs.declared.resolved_namespace.ResolvedNamespace.{ResolvedNamespace}
use Rattle.sc_schema.specs.declared.resolved_type.ResolvedType.{ResolvedType, ResolvedType-F, every-ResolvedType}
use Rattle.sc_schema.specs.declared.resolved_type.ResolvedType.TheOpen as t
use Rattle.sc_schema.specs.declared.resolved_schema.ResolvedSchema.{ResolvedSchema}

-- ---- what is declared, over all namespaces

abbrev pub common_types : ResolvedSchema → List ResolvedCommonType
common_types s = flat_map (λ (n : ResolvedNamespace). n.common_types) s.namespaces

abbrev pub entity_types : ResolvedSchema → List ResolvedEntityType
entity_types s = flat_map (λ (n : ResolvedNamespace). n.entity_types) s.namespaces

abbrev pub actions : ResolvedSchema → List ResolvedAction
actions s = flat_map (λ (n : ResolvedNamespace). n.actions) s.namespaces

abbrev pub common_names : ResolvedSchema → List (List ℕ)
common_names s = map (λ (c : ResolvedCommonType). c.name) (common_types s)

abbrev pub entity_names : ResolvedSchema → List (List ℕ)
entity_names s = map (λ (e : ResolvedEntityType). e.name) (entity_types s)

abbrev pub action_uids : ResolvedSchema → List Uid
action_uids s = map (λ (a : ResolvedAction). a.uid) (actions s)

-- ---- what it names is declared

abbrev pub AreDeclared : List (List ℕ) → List (List ℕ) → Type 0
AreDeclared declared names = AllByRecursion (Contains declared) names

abbrev pub field_names : List (List ℕ × Presence × ResolvedType) → List (List ℕ)
field_names = map (λ (f : List ℕ × Presence × ResolvedType). f.0)

-- a type, but for the types inside it: what it names is declared, and its fields ascend
abbrev pub IsResolvedLevel : ResolvedSchema → ResolvedType-F ResolvedType → Type 0
IsResolvedLevel s t.Boolean = ⊤
IsResolvedLevel s t.Long = ⊤
IsResolvedLevel s t.String = ⊤
IsResolvedLevel s t.Decimal = ⊤
IsResolvedLevel s t.Ip = ⊤
IsResolvedLevel s (t.Entity name) = Contains (entity_names s) name
IsResolvedLevel s (t.Set member) = ⊤
IsResolvedLevel s (t.Record fields) = AreAscending (field_names fields) × AllByRecursion IsUtf8 (field_names fields)
IsResolvedLevel s (t.Common name) = Contains (common_names s) name

abbrev pub IsResolvedType : ResolvedSchema → ResolvedType → Type 0
IsResolvedType s = every-ResolvedType (IsResolvedLevel s)

-- entities of an enumerated type have no attributes, tags or ancestors
pub record IsBareType (e : ResolvedEntityType) : Type 0 where
  pub attributes : e.shape ≡ None
  pub tagless : e.tags ≡ None
  pub apart : e.parents ≡ []

pub record IsResolvedEntityType (s : ResolvedSchema) (e : ResolvedEntityType) : Type 0 where
  pub text : IsUtf8 e.name
  pub above : AreDeclared (entity_names s) e.parents
  pub shape_type : IfSome e.shape (IsResolvedType s)
  pub tag_type : IfSome e.tags (IsResolvedType s)
  pub ids : AreChoices e.choices
  pub bare : e.choices ≢ [] → IsBareType e

pub record IsResolvedAction (s : ResolvedSchema) (a : ResolvedAction) : Type 0 where
  pub type_text : IsUtf8 a.uid.type_name
  pub id_text : IsUtf8 a.uid.id
  pub above : AllByRecursion (Contains (action_uids s)) a.parents
  pub principal_types : AreDeclared (entity_names s) a.principals
  pub resource_types : AreDeclared (entity_names s) a.resources
  pub context_type : IfSome a.context (IsResolvedType s)

-- no entity type has the name of a type of actions
abbrev pub IsNoActionType : ResolvedSchema → List ℕ → Type 0
IsNoActionType s name = list_any (λ (u : Uid). bytes_eq name u.type_name) (action_uids s) ≡ false

-- each name is declared, and each declaration has a name of its own
pub record IsResolved (s : ResolvedSchema) : Type 0 where
  pub common_distinct : IsDistinct bytes_eq (common_names s)
  pub entities_distinct : IsDistinct bytes_eq (entity_names s)
  pub actions_distinct : IsDistinct uid_eq (action_uids s)
  pub no_action : AllByRecursion (IsNoActionType s) (entity_names s)
  pub each_common : AllByRecursion (λ (c : ResolvedCommonType). IsResolvedType s c.body) (common_types s)
  pub each_entity : AllByRecursion (IsResolvedEntityType s) (entity_types s)
  pub each_action : AllByRecursion (IsResolvedAction s) (actions s)
