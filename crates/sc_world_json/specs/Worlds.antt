-- The world that a tree says. What it is where the tree has a fault doesn't matter.
use Rattle.std.specs.Prelude.{ℕ, List, [], ◌∷◌, map, pos, false, Option, Some, None, option_map, option_and_then, unwrap_or, codes}
use Rattle.std.specs.BTreeSet.{insert_key}
use Rattle.std.specs.declared.cmp.Ordering.{Ordering}
use Rattle.serde_json.specs.Data.{Data, null, boolean, number, string, array, object, Items, no_items, item, Members, no_members, member}
use Rattle.serde_json.specs.Find.{get, get_member, as_i64, as_str, as_array, as_object}
use Rattle.sc_names.specs.declared.uid.Uid.{Uid}
use Rattle.sc_names.specs.Uids.{uid_cmp}
use Rattle.sc_values.specs.declared.value.Value.{Value}
use Rattle.sc_values.specs.declared.value.Value.TheVariants as value
use Rattle.sc_values.specs.Order.{value_cmp}
use Rattle.sc_values.specs.Records.{Fields}
use Rattle.sc_world.specs.declared.entity.EntityData.{EntityData}
use Rattle.sc_world.specs.declared.world.Request.{Request}
use Rattle.sc_world.specs.declared.world.World.{World}
use Rattle.sc_world.specs.Stores.{Entities, with_entity}
use Rattle.sc_world_json.specs.declared.mark.Mark.{Mark}
use Rattle.sc_world_json.specs.declared.mark.Mark.TheVariants.{Entity, Extension}
use Rattle.sc_world_json.specs.Marks.{mark_of, function_named, value_by}

-- ---- parts of a tree, each of which may be absent

abbrev pub elements : Items → List Data
elements no_items = []
elements (item d ds) = d ∷ elements ds

-- the items of a list
abbrev pub elements_of : Option Data → List Data
elements_of value = unwrap_or (option_map elements (option_and_then as_array value)) []

-- the text at a member
abbrev pub text_at : List ℕ → Option Data → List ℕ
text_at key value = unwrap_or (option_and_then as_str (option_and_then (get key) value)) []

-- ---- uids and values

abbrev pub uid_of : Option Data → Uid
uid_of value = record { type_name = text_at (codes "type") value; id = text_at (codes "id") value }

-- the members of a list, ascending, each once
abbrev pub in_order : {K : Type 0} → (K → K → Ordering) → List K → List K
in_order R [] = []
in_order R (x ∷ xs) = insert_key R (in_order R xs) x

-- the set of the uids in a list
abbrev pub uids_of : Option Data → List Uid
uids_of value = in_order uid_cmp (map (λ d. uid_of (Some d)) (elements_of value))

-- the value that a named function gives for a text
abbrev pub extension_of : Option Data → Value
extension_of call =
    unwrap_or (option_and_then (λ f. value_by f (text_at (codes "arg") call))
    (function_named (text_at (codes "fn") call))) (value.Bool false)

-- the value of an object with this mark: a record of its members, if it has none
abbrev pub object_value : Option Mark → Members → Fields → Value
object_value None ms fields = value.Record fields
object_value (Some Entity) ms fields = value.Entity (uid_of (get_member (codes "__entity") ms))
object_value (Some Extension) ms fields = extension_of (get_member (codes "__extn") ms)

unfoldable mutual
  pub value_of : Data → Value
  value_of null = value.Bool false
  value_of (boolean truth) = value.Bool truth
  value_of (number n) = value.Long (unwrap_or (as_i64 n) (pos 0))
  value_of (string text) = value.String text
  value_of (array ds) = value.Set (in_order value_cmp (values_of ds))
  value_of (object ms) = object_value (mark_of ms) ms (fields_of ms)

  pub values_of : Items → List Value
  values_of no_items = []
  values_of (item d ds) = value_of d ∷ values_of ds

  -- the values of the members, by their names
  pub fields_of : Members → Fields
  fields_of no_members = []
  fields_of (member name d ms) = (name, value_of d) ∷ fields_of ms

abbrev pub record_of : Option Data → Fields
record_of value = unwrap_or (option_map fields_of (option_and_then as_object value)) []

-- ---- worlds

-- a stored entity, with its uid
abbrev pub entity_of : Data → Uid × EntityData
entity_of d = (
  uid_of (get (codes "uid") d),
  record {
    attrs = record_of (get (codes "attrs") d);
    ancestors = uids_of (get (codes "parents") d);
    tags = record_of (get (codes "tags") d);
  },
)

-- what is stored once these entities are too
abbrev pub store_with : Entities → List (Uid × EntityData) → Entities
store_with es [] = es
store_with es (x ∷ xs) = store_with (with_entity x.0 x.1 es) xs

abbrev pub store_of : Option Data → Entities
store_of value = store_with [] (map entity_of (elements_of value))

abbrev pub request_of : Option Data → Request
request_of value =
    record {
      principal = uid_of (option_and_then (get (codes "principal")) value);
      action = uid_of (option_and_then (get (codes "action")) value);
      resource = uid_of (option_and_then (get (codes "resource")) value);
      context = record_of (option_and_then (get (codes "context")) value);
    }

abbrev pub world_of : Data → World
world_of d = record { request = request_of (get (codes "request") d); store = store_of (get (codes "entities") d) }
