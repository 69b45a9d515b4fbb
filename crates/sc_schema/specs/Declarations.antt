-- What a schema declares.
use Rattle.std.specs.Prelude.{◌&&◌, ℕ, List, [], ◌∷◌, map, fold, Bool, Option, Some, None, option_map, option_and_then, unwrap_or, find, if◌then◌else◌}
use Rattle.std.specs.List.{flat_map, list_any}
use Rattle.std.specs.Ordering.{match_ordering, ordering_then}
use Rattle.std.specs.declared.cmp.Ordering.{Ordering}
use Rattle.std.specs.Str.{bytes_eq}
use Rattle.sc_names.specs.declared.uid.Uid.{Uid}
use Rattle.sc_names.specs.Uids.{text_cmp, uid_cmp}
use Rattle.sc_schema.specs.declared.ty.EntityKind.{EntityKind}
use Rattle.sc_schema.specs.declared.ty.Ty.{Ty}
use Rattle.sc_schema.specs.declared.ty.Ty.TheVariants.{Record}
use Rattle.sc_schema.specs.declared.declarations.EntityType.{EntityType}
use Rattle.sc_schema.specs.declared.declarations.Action.{Action}
use Rattle.sc_schema.specs.declared.declarations.Env.{Env}

-- the entity types, ascending by name, and the actions, ascending by uid
pub record Declarations : Type 0 where
  pub types : List EntityType
  pub actions : List Action

abbrev pub environment : Action → List ℕ → List ℕ → Env
environment a principal resource = record { principal = principal; action = a.uid; resource = resource }

-- the environments of requests for one action
abbrev pub environments_for : Action → List Env
environments_for a = flat_map (λ p. map (environment a p) a.resources) a.principals

-- the environments, in the order of action, principal type and resource type
abbrev pub environments : Declarations → List Env
environments s = flat_map environments_for s.actions

-- environments by action, then principal type, then resource type
abbrev pub env_cmp : Env → Env → Ordering
env_cmp a b = ordering_then (uid_cmp a.action b.action)
    (ordering_then (text_cmp a.principal b.principal) (text_cmp a.resource b.resource))

-- the names of the declared entity types
abbrev pub entity_types : Declarations → List (List ℕ)
entity_types s = map (λ (t : EntityType). t.name) s.types

-- the uids of the declared actions
abbrev pub action_uids : Declarations → List Uid
action_uids s = map (λ (a : Action). a.uid) s.actions

abbrev pub uid_eq : Uid → Uid → Bool
uid_eq a b = bytes_eq a.type_name b.type_name && bytes_eq a.id b.id

-- the declaration of an entity type
abbrev pub entity_type : Declarations → List ℕ → Option EntityType
entity_type s name = find (λ t. bytes_eq name t.name) s.types

-- the declaration of an action
abbrev pub action : Declarations → Uid → Option Action
action s u = find (λ a. uid_eq u a.uid) s.actions

-- whether a type is one of actions
abbrev pub is_action_type : Declarations → List ℕ → Bool
is_action_type s name = list_any (λ a. bytes_eq name a.uid.type_name) s.actions

-- the type of an entity's attributes: its type's shape, and none for an action
abbrev pub attrs_of : Declarations → List ℕ → Option Ty
attrs_of s name = if is_action_type s name then Some (Record [])
    else option_map (λ (t : EntityType). t.shape) (entity_type s name)

-- the type of the values of an entity's tags, where entities of its type have tags
abbrev pub tags_of : Declarations → List ℕ → Option Ty
tags_of s name = if is_action_type s name then None
    else option_and_then (λ (t : EntityType). t.tags) (entity_type s name)

-- the ids that entities of a type may have, if it is enumerated, and none otherwise
abbrev pub choices_of : Declarations → List ℕ → List (List ℕ)
choices_of s name = unwrap_or (option_map (λ (t : EntityType). t.choices) (entity_type s name)) []

-- the same where there are some
abbrev pub some_of : {X : Type 0} → List X → Option (List X)
some_of [] = None
some_of (x ∷ xs) = Some (x ∷ xs)

abbrev pub declared_choices : Declarations → List ℕ → Option (List (List ℕ))
declared_choices s name = some_of (choices_of s name)

-- a type of entities with its choices
abbrev pub kind_of : Declarations → List ℕ → EntityKind
kind_of s name = record { name = name; choices = choices_of s name }

-- names that ascend, with one more in its place, where it isn't there
unfoldable pub with_name : List (List ℕ) → List ℕ → List (List ℕ)
with_name [] name = name ∷ []
with_name (other ∷ names) name =
    match_ordering (text_cmp name other) (name ∷ other ∷ names) (other ∷ names) (other ∷ with_name names name)

-- the names in ascending order, each once
abbrev pub in_order : List (List ℕ) → List (List ℕ)
in_order = fold with_name []

-- the types of the actions that actions of a type are in
abbrev pub types_above : List Action → List ℕ → List (List ℕ)
types_above actions name = flat_map
    (λ (a : Action). if bytes_eq name a.uid.type_name then map (λ (u : Uid). u.type_name) a.ancestors else []) actions

-- the types that an entity's ancestors may have: those that its type declares, and for an action those of the actions
-- that actions of its type are in
abbrev pub ancestor_types : Declarations → List ℕ → Option (List (List ℕ))
ancestor_types s name =
    if is_action_type s name
    then Some (in_order (types_above s.actions name))
    else option_map (λ (t : EntityType). t.ancestors) (entity_type s name)

-- the actions that an action is in
abbrev pub action_ancestors : Declarations → Uid → Option (List Uid)
action_ancestors s u = option_map (λ (a : Action). a.ancestors) (action s u)

-- the type of the context of requests for an action
abbrev pub context_of : Declarations → Uid → Option Ty
context_of s u = option_map (λ (a : Action). a.context) (action s u)
