-- Which entities have to be stored, where each is as it is by default.
use Rattle.std.specs.Prelude.{◌≡◌, ◌↔◌, ◌++◌, ℕ, List, [], ◌∷◌, flat_map, Contains, IsTrue, IsSome}
use Rattle.std.specs.List.{AllByRecursion}
use Rattle.sc_names.specs.declared.uid.Uid.{Uid}
use Rattle.sc_schema.specs.declared.declarations.Env.{Env}
use Rattle.sc_schema.specs.Declarations.{Declarations, action, action_uids, attrs_of, environments, is_action_type}
use Rattle.sc_values.specs.declared.value.Value.{Value, Value-F, fold-Value}
use Rattle.sc_values.specs.declared.value.Value.TheOpen as v
use Rattle.sc_values.specs.declared.value.Value.TheVariants.{Record}
use Rattle.sc_values.specs.Proper.{IsProperRecord}
use Rattle.sc_world.specs.declared.entity.EntityData.{EntityData}
use Rattle.sc_world.specs.declared.world.Request.{Request}
use Rattle.sc_world.specs.Choices.{IsChoice}
use Rattle.sc_world.specs.Stores.{Entities}
use Rattle.sc_world.specs.WellFormed.{Entry, IsStored, IsRequestOf}
use Rattle.sc_world.specs.Defaults.{default_attrs, default_data}

-- the entities that a value names, each value inside it being seen as those that it names
abbrev pub uids_step : Value-F (List Uid) → List Uid
uids_step (v.Entity u) = u ∷ []
uids_step (v.Set members) = flat_map (λ (us : List Uid). us) members
uids_step (v.Record fields) = flat_map (λ (f : List ℕ × List Uid). f.1) fields
uids_step _ = []

-- the entities that a value names
unfoldable pub uids_in : Value → List Uid
uids_in = fold-Value (List Uid) uids_step

-- the entities that a request names
abbrev pub request_uids : Request → List Uid
request_uids r = r.principal ∷ r.action ∷ r.resource ∷ uids_in (Record r.context)

-- the entities that what is stored of one names
abbrev pub uids_in_data : EntityData → List Uid
uids_in_data e = uids_in (Record e.attrs) ++ (uids_in (Record e.tags) ++ e.ancestors)

abbrev pub uids_in_entry : Entry → List Uid
uids_in_entry x = uids_in_data x.1

-- the entities that an entity's attributes name by default
abbrev pub attribute_uids : Declarations → Uid → List Uid
attribute_uids s u = uids_in (Record (default_attrs s u.type_name))

-- what a world for a request stores: the declared actions, what the request names, what policies write, and what the
-- default attributes of a stored entity name
pub data IsNamed (s : Declarations) (r : Request) (literals : List Uid) : Uid → Type 0 where
  by_schema : {u : Uid} → Contains (action_uids s) u → IsNamed s r literals u
  by_request : {u : Uid} → Contains (request_uids r) u → IsNamed s r literals u
  by_policy : {u : Uid} → Contains literals u → IsNamed s r literals u
  by_entity : {v : Uid} (u : Uid) → IsNamed s r literals u → Contains (attribute_uids s u) v → IsNamed s r literals v

-- just what is named is stored
abbrev pub StoresNamed : Declarations → Request → List Uid → Entities → Type 0
StoresNamed s r literals es = (u : Uid) → IsStored es u ↔ IsNamed s r literals u

-- each entity is stored as it is by default
abbrev pub AreDefaults : Declarations → Entities → Type 0
AreDefaults s es = AllByRecursion (λ (x : Entry). x.1 ≡ default_data s x.0) es

-- an entity of a declared type, a declared action where the type is one of actions, and a choice where the type is
-- enumerated
pub record IsDeclared (s : Declarations) (u : Uid) : Type 0 where
  pub of_type : IsSome (attrs_of s u.type_name)
  pub as_action : IsTrue (is_action_type s u.type_name) → IsSome (action s u)
  pub as_choice : IsChoice s u

-- a request of one of the schema's environments, and entities that are declared
pub record IsRequestAmong (s : Declarations) (env : Env) (r : Request) (literals : List Uid) : Type 0 where
  pub environment : Contains (environments s) env
  pub request : IsRequestOf s env r
  pub context : IsProperRecord r.context
  pub declared : AllByRecursion (IsDeclared s) literals
