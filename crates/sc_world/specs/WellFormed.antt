-- Well-formed worlds.
use Rattle.std.specs.Prelude.{◌≡◌, ℕ, List, [], Contains, IsTrue, IsSome, IfSome, IsSomeAnd, MatchOption, ⊤}
use Rattle.std.specs.List.{AllByRecursion}
use Rattle.std.specs.List.Sorted.{IsStrictlySortedBy}
use Rattle.sc_names.specs.declared.uid.Uid.{Uid}
use Rattle.sc_names.specs.Uids.{uid_cmp}
use Rattle.sc_schema.specs.declared.declarations.Action.{Action}
use Rattle.sc_schema.specs.declared.declarations.Env.{Env}
use Rattle.sc_schema.specs.Declarations.{Declarations, attrs_of, tags_of, ancestor_types, context_of, is_action_type}
use Rattle.sc_values.specs.declared.value.Value.{Value, Value-F, every-Value}
use Rattle.sc_values.specs.declared.value.Value.TheOpen as v
use Rattle.sc_values.specs.declared.value.Value.TheVariants.{Record}
use Rattle.sc_values.specs.Proper.{IsProperRecord, IsUidText}
use Rattle.sc_world.specs.declared.entity.EntityData.{EntityData}
use Rattle.sc_world.specs.declared.world.Request.{Request}
use Rattle.sc_world.specs.declared.world.World.{World}
use Rattle.sc_world.specs.Stores.{Entities, stored, IsMap}
use Rattle.sc_world.specs.Choices.{IsChoice}
use Rattle.sc_world.specs.Conforms.{conforms}

abbrev pub Entry : Type 0
Entry = Uid × EntityData

-- what is stored of an entity is made of values: numbers in range, sets and records in order, each ancestor once
pub record IsProperEntry (x : Entry) : Type 0 where
  pub uid : IsUidText x.0
  pub attrs : IsProperRecord x.1.attrs
  pub tags : IsProperRecord x.1.tags
  pub ancestors : IsStrictlySortedBy uid_cmp x.1.ancestors
  pub ancestor_texts : AllByRecursion IsUidText x.1.ancestors

-- a request is made of values
pub record IsProperRequest (r : Request) : Type 0 where
  pub principal : IsUidText r.principal
  pub action : IsUidText r.action
  pub resource : IsUidText r.resource
  pub context : IsProperRecord r.context

-- a world is a request and a finite map from uids to entities, all made of values
pub record IsProperWorld (w : World) : Type 0 where
  pub principal : IsUidText w.request.principal
  pub action : IsUidText w.request.action
  pub resource : IsUidText w.request.resource
  pub context : IsProperRecord w.request.context
  pub store : IsMap w.store
  pub entries : AllByRecursion IsProperEntry w.store

-- the request is one of the environment
pub record IsRequestOf (s : Declarations) (env : Env) (r : Request) : Type 0 where
  pub principal : r.principal.type_name ≡ env.principal
  pub action : r.action ≡ env.action
  pub resource : r.resource.type_name ≡ env.resource
  pub principal_choice : IsChoice s r.principal
  pub resource_choice : IsChoice s r.resource
  pub context : IsSomeAnd (context_of s env.action) (λ t. IsTrue (conforms t (Record r.context)))

-- an entity's type is declared, and its attributes are those of the type
abbrev pub HasAttributes : Declarations → Entry → Type 0
HasAttributes s x = IsSomeAnd (attrs_of s x.0.type_name) (λ t. IsTrue (conforms t (Record x.1.attrs)))

-- each tag is of the type's tag type, and there is none where the type has none
abbrev pub HasTags : Declarations → Entry → Type 0
HasTags s x = MatchOption (tags_of s x.0.type_name) (x.1.tags ≡ [])
    (λ t. AllByRecursion (λ (f : List ℕ × Value). IsTrue (conforms t f.1)) x.1.tags)

-- each ancestor is of a type that ancestors of the entity's type may have
abbrev pub HasAncestorTypes : Declarations → Entry → Type 0
HasAncestorTypes s x = AllByRecursion
    (λ (a : Uid). IsSomeAnd (ancestor_types s x.0.type_name) (λ types. Contains types a.type_name)) x.1.ancestors

-- ancestors of an ancestor are ancestors
abbrev pub IsTransitive : Entities → Entry → Type 0
IsTransitive es x = AllByRecursion
    (λ a. IfSome (stored a es) (λ e. AllByRecursion (λ b. Contains x.1.ancestors b) e.ancestors)) x.1.ancestors

-- an entity isn't its own ancestor
abbrev pub IsAcyclic : Entry → Type 0
IsAcyclic x = ¬ Contains x.1.ancestors x.0

-- what is stored of a declared action
abbrev pub action_data : Action → EntityData
action_data a = record { attrs = []; ancestors = a.ancestors; tags = [] }

-- an entity of an action type is a declared action, with no attributes and tags and with its declared ancestors
abbrev pub IsAction : Declarations → Entry → Type 0
IsAction s x = IsTrue (is_action_type s x.0.type_name) → (a : Action) × Contains s.actions a
    × (x ≡ (a.uid, action_data a))

-- a stored entity and its ancestors have choices as ids where their types are enumerated; then the entity has no
-- attributes, tags or ancestors, since such a type admits none
pub record HasChoices (s : Declarations) (x : Entry) : Type 0 where
  pub uid : IsChoice s x.0
  pub ancestors : AllByRecursion (IsChoice s) x.1.ancestors

abbrev pub IsStored : Entities → Uid → Type 0
IsStored es u = IsSome (stored u es)

-- an entity that a value names, but for the values inside it, is stored
abbrev pub NamesStoredLevel : Entities → Value-F Value → Type 0
NamesStoredLevel es (v.Entity u) = IsStored es u
NamesStoredLevel es _ = ⊤

abbrev pub NamesStored : Entities → Value → Type 0
NamesStored es = every-Value (NamesStoredLevel es)

-- each uid that an entity's attributes, tags and ancestors name is stored
pub record EntryNamesStored (es : Entities) (x : Entry) : Type 0 where
  pub attrs : NamesStored es (Record x.1.attrs)
  pub tags : NamesStored es (Record x.1.tags)
  pub ancestors : AllByRecursion (IsStored es) x.1.ancestors

-- each uid that is named is stored
pub record IsClosed (literals : List Uid) (w : World) : Type 0 where
  pub principal : IsStored w.store w.request.principal
  pub action : IsStored w.store w.request.action
  pub resource : IsStored w.store w.request.resource
  pub context : NamesStored w.store (Record w.request.context)
  pub entries : AllByRecursion (EntryNamesStored w.store) w.store
  pub written : AllByRecursion (IsStored w.store) literals

-- a world is well-formed for a schema, an environment of it and the uids that policies write
pub record IsWellFormed (s : Declarations) (env : Env) (literals : List Uid) (w : World) : Type 0 where
  pub proper : IsProperWorld w
  pub request : IsRequestOf s env w.request
  pub attributes : AllByRecursion (HasAttributes s) w.store
  pub tags : AllByRecursion (HasTags s) w.store
  pub ancestor_types : AllByRecursion (HasAncestorTypes s) w.store
  pub transitive : AllByRecursion (IsTransitive w.store) w.store
  pub acyclic : AllByRecursion IsAcyclic w.store
  pub actions : AllByRecursion (IsAction s) w.store
  pub choices : AllByRecursion (HasChoices s) w.store
  pub declared_actions : AllByRecursion (λ (a : Action). IsStored w.store a.uid) s.actions
  pub closed : IsClosed literals w
