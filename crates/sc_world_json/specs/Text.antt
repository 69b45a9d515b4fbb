-- A world as JSON, with the members of each object in the order of their names.
use Rattle.std.specs.Prelude.{ℕ, List, [], ◌∷◌, map, codes}
use Rattle.serde_json.specs.Data.{Data, boolean, number, string, array, object, Members, no_members, member}
use Rattle.serde_json.specs.Find.{of_integer}
use Rattle.serde_json.specs.View.{items_of}
use Rattle.serde_json.specs.Written.{compact_text}
use Rattle.sc_names.specs.declared.uid.Uid.{Uid}
use Rattle.sc_decimal.specs.DecimalText.{decimal_text}
use Rattle.sc_ip.specs.IpText.{ip_text}
use Rattle.sc_values.specs.declared.value.Value.{Value, Value-F, fold-Value}
use Rattle.sc_values.specs.declared.value.Value.TheOpen as v
use Rattle.sc_values.specs.Records.{Fields}
use Rattle.sc_world.specs.declared.entity.EntityData.{EntityData}
use Rattle.sc_world.specs.declared.world.Request.{Request}
use Rattle.sc_world.specs.declared.world.World.{World}
use Rattle.sc_world.specs.Stores.{Entities}

-- the object with one member
abbrev pub only_member : List ℕ → Data → Data
only_member name d = object (member name d no_members)

abbrev pub uid_data : Uid → Data
uid_data u = object (member (codes "id") (string u.id) (member (codes "type") (string u.type_name) no_members))

-- a reference to an entity
abbrev pub reference_data : Uid → Data
reference_data u = only_member (codes "__entity") (uid_data u)

-- the value that a function gives for a text
abbrev pub extension_data : List ℕ → List ℕ → Data
extension_data name text = only_member (codes "__extn")
    (object (member (codes "arg") (string text) (member (codes "fn") (string name) no_members)))

-- the members with these names and data, in order
abbrev pub members_data : List (List ℕ × Data) → Members
members_data [] = no_members
members_data (f ∷ fs) = member f.0 f.1 (members_data fs)

-- a value, whose parts are told by their data
abbrev pub value_step : Value-F Data → Data
value_step (v.Bool b) = boolean b
value_step (v.Long n) = number (of_integer n)
value_step (v.String text) = string text
value_step (v.Entity u) = reference_data u
value_step (v.Set members) = array (items_of members)
value_step (v.Record fields) = object (members_data fields)
value_step (v.Decimal n) = extension_data (codes "decimal") (decimal_text n)
value_step (v.Ip ip) = extension_data (codes "ip") (ip_text ip)

unfoldable pub value_data : Value → Data
value_data = fold-Value Data value_step

-- the fields of a record, as they stand in the record's data
abbrev pub fields_data : Fields → Members
fields_data fields = members_data (map (λ (f : List ℕ × Value). (f.0, value_data f.1)) fields)

abbrev pub uids_data : List Uid → Data
uids_data us = array (items_of (map uid_data us))

-- what is stored of an entity
abbrev pub entity_data : Uid × EntityData → Data
entity_data (u, e) =
    object (member (codes "attrs") (object (fields_data e.attrs)) (member (codes "parents") (uids_data e.ancestors)
    (member (codes "tags") (object (fields_data e.tags)) (member (codes "uid") (uid_data u) no_members))))

abbrev pub entities_data : Entities → Data
entities_data es = array (items_of (map entity_data es))

abbrev pub request_data : Request → Data
request_data r =
    object (member (codes "action") (uid_data r.action) (member (codes "context") (object (fields_data r.context))
    (member (codes "principal") (uid_data r.principal) (member (codes "resource") (uid_data r.resource) no_members))))

abbrev pub world_data : World → Data
world_data w =
    object (member (codes "entities") (entities_data w.store)
    (member (codes "request") (request_data w.request) no_members))

-- the text with no white space
unfoldable pub world_text : World → List ℕ
world_text w = compact_text (world_data w)
