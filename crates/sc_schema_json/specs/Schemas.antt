-- The schema that a file's declarations make.
use Rattle.std.specs.Prelude.{◌≡◌, ◌↔◌, ℕ, List, map, Contains}
use Rattle.std.specs.List.Sorted.{IsStrictlySortedBy}
use Rattle.sc_names.specs.declared.uid.Uid.{Uid}
use Rattle.sc_names.specs.Uids.{text_cmp, uid_cmp}
use Rattle.sc_schema.specs.Declarations.{Declarations}
use Rattle.sc_schema.specs.Lawful.{AreAscending}
use Rattle.sc_schema.specs.declared.declarations.Action.{Action}
use Rattle.sc_schema.specs.declared.declarations.EntityType.{EntityType}
use Rattle.sc_schema.specs.declared.resolved_action.ResolvedAction.{ResolvedAction}
use Rattle.sc_schema.specs.declared.expanded.ExpandedAction.{ExpandedAction}
use Rattle.sc_schema.specs.declared.expanded.ExpandedEntityType.{ExpandedEntityType}
use Rattle.sc_schema.specs.declared.expanded.ExpandedSchema.{ExpandedSchema}
use Rattle.sc_schema_json.specs.declared.declared.Declared.{Declared}
use Rattle.sc_schema_json.specs.Above.{Links, AreAbove}

-- entity types, each with those whose entities its own may be in
abbrev pub type_links : List ExpandedEntityType → Links (List ℕ)
type_links = map (λ (t : ExpandedEntityType). (t.name, t.parents))

-- actions, each with those that it is in
abbrev pub action_links : List ExpandedAction → Links Uid
action_links = map (λ (a : ExpandedAction). (a.uid, a.parents))

-- the same, of actions before common types are written out
abbrev pub resolved_links : List ResolvedAction → Links Uid
resolved_links = map (λ (a : ResolvedAction). (a.uid, a.parents))

-- the same names, in ascending order, each once
pub record AreInOrder (names ordered : List (List ℕ)) : Type 0 where
  pub ascending : AreAscending ordered
  pub members : (name : List ℕ) → Contains ordered name ↔ Contains names name

-- a declaration of an entity type, with all types that ancestors of its entities may have
pub record IsEntityTypeOf (links : Links (List ℕ)) (d : ExpandedEntityType) (t : EntityType) : Type 0 where
  pub name : t.name ≡ d.name
  pub ancestors : AreAbove text_cmp links d.name t.ancestors
  pub shape : t.shape ≡ d.shape
  pub tags : t.tags ≡ d.tags
  pub choices : t.choices ≡ d.choices

-- a declaration of an action, with all actions that it is in
pub record IsActionOf (links : Links Uid) (d : ExpandedAction) (a : Action) : Type 0 where
  pub uid : a.uid ≡ d.uid
  pub ancestors : AreAbove uid_cmp links d.uid a.ancestors
  pub principals : AreInOrder d.principals a.principals
  pub resources : AreInOrder d.resources a.resources
  pub context : a.context ≡ d.context

-- entity types in order, each declared, and each declaration among them
pub record AreTypesOf (ds : List ExpandedEntityType) (types : List EntityType) : Type 0 where
  pub ascending : AreAscending (map (λ (t : EntityType). t.name) types)
  pub each : (t : EntityType) → Contains types t → (d : ExpandedEntityType) × Contains ds d
      × IsEntityTypeOf (type_links ds) d t
  pub all : (d : ExpandedEntityType) → Contains ds d → (t : EntityType) × Contains types t
      × IsEntityTypeOf (type_links ds) d t

-- actions in order, each declared, and each declaration among them
pub record AreActionsOf (ds : List ExpandedAction) (actions : List Action) : Type 0 where
  pub ascending : IsStrictlySortedBy uid_cmp (map (λ (a : Action). a.uid) actions)
  pub each : (a : Action) → Contains actions a → (d : ExpandedAction) × Contains ds d × IsActionOf (action_links ds) d a
  pub all : (d : ExpandedAction) → Contains ds d → (a : Action) × Contains actions a × IsActionOf (action_links ds) d a

pub record IsSchemaOf (x : ExpandedSchema) (s : Declarations) : Type 0 where
  pub types : AreTypesOf x.entity_types s.types
  pub actions : AreActionsOf x.actions s.actions

-- the schema of these entity types and actions
abbrev pub declarations_view : Declared → Declarations
declarations_view d = record { types = d.types; actions = d.actions }
