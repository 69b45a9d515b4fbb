-- What a world stores where some entities are given, and each other one that is named is as it is by default.
use Rattle.std.specs.Prelude.{◌≡◌, ◌↔◌, List, Contains, unwrap_or}
use Rattle.std.specs.List.{AllByRecursion}
use Rattle.sc_names.specs.declared.uid.Uid.{Uid}
use Rattle.sc_schema.specs.Declarations.{Declarations, action_uids}
use Rattle.sc_world.specs.declared.entity.EntityData.{EntityData}
use Rattle.sc_world.specs.declared.world.Request.{Request}
use Rattle.sc_world.specs.Defaults.{default_data}
use Rattle.sc_world.specs.Named.{request_uids, uids_in_data}
use Rattle.sc_world.specs.Stores.{Entities, stored}
use Rattle.sc_world.specs.WellFormed.{Entry, IsStored}

-- what is stored of an entity: what is given of it, and its default where nothing is
abbrev pub data_with : Declarations → Entities → Uid → EntityData
data_with s given u = unwrap_or (stored u given) (default_data s u)

-- each given entity is stored as it is given, and each other one as it is by default
abbrev pub AreAsGiven : Declarations → Entities → Entities → Type 0
AreAsGiven s given es = AllByRecursion (λ (x : Entry). x.1 ≡ data_with s given x.0) es

-- what is stored with these given: the declared actions, what the request names, what policies write, what is given,
-- and what the attributes, tags and ancestors of a stored entity name
pub data IsNamedWith (s : Declarations) (given : Entities) (r : Request) (literals : List Uid) : Uid → Type 0 where
  of_schema : {u : Uid} → Contains (action_uids s) u → IsNamedWith s given r literals u
  of_request : {u : Uid} → Contains (request_uids r) u → IsNamedWith s given r literals u
  of_policy : {u : Uid} → Contains literals u → IsNamedWith s given r literals u
  of_given : {u : Uid} → IsStored given u → IsNamedWith s given r literals u
  of_entity : {v : Uid} (u : Uid) → IsNamedWith s given r literals u → Contains (uids_in_data (data_with s given u)) v
      → IsNamedWith s given r literals v

-- just what is named is stored
abbrev pub StoresNamedWith : Declarations → Entities → Request → List Uid → Entities → Type 0
StoresNamedWith s given r literals es = (u : Uid) → IsStored es u ↔ IsNamedWith s given r literals u
