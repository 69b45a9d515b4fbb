-- The entities that are stored, as a list that ascends by uid.
use Rattle.std.specs.Prelude.{List, Option}
use Rattle.std.specs.List.Sorted.{IsStrictlySortedBy}
use Rattle.std.specs.Map.{lookup, keys_of}
use Rattle.std.specs.BTreeMap.{is_at, insert_entry}
use Rattle.sc_names.specs.declared.uid.Uid.{Uid}
use Rattle.sc_names.specs.Uids.{uid_cmp}
use Rattle.sc_world.specs.declared.entity.EntityData.{EntityData}

abbrev pub Entities : Type 0
Entities = List (Uid × EntityData)

-- what is stored of an entity
unfoldable pub stored : Uid → Entities → Option EntityData
stored u es = lookup (is_at (uid_cmp u)) es

-- the entities, with this one in its place
unfoldable pub with_entity : Uid → EntityData → Entities → Entities
with_entity u e es = insert_entry uid_cmp es u e

-- each uid once, ascending
abbrev pub IsMap : Entities → Type 0
IsMap es = IsStrictlySortedBy uid_cmp (keys_of es)
