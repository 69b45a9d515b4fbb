-- What a world isn't well-formed for, but for its request: the stored entities that aren't as they have to be, and
-- those that have to be stored and aren't; and the least of either.
use Rattle.std.specs.Prelude.{◌≡◌, ◌≢◌, List, ◌++◌, flat_map, None, Contains}
use Rattle.std.specs.declared.cmp.Ordering.TheVariants.{Greater}
use Rattle.sc_names.specs.declared.uid.Uid.{Uid}
use Rattle.sc_names.specs.Uids.{uid_cmp}
use Rattle.sc_schema.specs.Declarations.{Declarations, action_uids}
use Rattle.sc_world.specs.declared.entity.EntityData.{EntityData}
use Rattle.sc_world.specs.declared.world.World.{World}
use Rattle.sc_world.specs.Named.{request_uids, uids_in_entry}
use Rattle.sc_world.specs.Sound.{IsSoundEntry}
use Rattle.sc_world.specs.Stores.{Entities, stored}

-- an entity that isn't sound is stored
abbrev pub IsBroken : Declarations → Entities → Uid → Type 0
IsBroken s es u = (e : EntityData) × Contains es (u, e) × ¬ IsSoundEntry s es (u, e)

-- the uids of the entities that a world has to store: those that its request and its entities name, those that policies
-- write, and the declared actions
abbrev pub wanted : Declarations → List Uid → World → List Uid
wanted s literals w = request_uids w.request ++ (flat_map uids_in_entry w.store ++ (literals ++ action_uids s))

-- an entity has to be stored and isn't
abbrev pub IsMissing : Declarations → List Uid → World → Uid → Type 0
IsMissing s literals w u = Contains (wanted s literals w) u × (stored u w.store ≡ None)

-- the least uid of which it holds
pub record IsLeast (P : Uid → Type 0) (u : Uid) : Type 0 where
  pub here : P u
  pub least : (w : Uid) → P w → uid_cmp u w ≢ Greater
