-- Worlds with no record that could be taken for an entity or for the value of a function.
use Rattle.std.specs.Prelude.{ℕ, List, ◌&&◌, Bool, true, is_none}
use Rattle.std.specs.List.{list_all}
use Rattle.sc_values.specs.declared.value.Value.{Value, Value-F, fold-Value}
use Rattle.sc_values.specs.declared.value.Value.TheOpen as v
use Rattle.sc_values.specs.Records.{Fields}
use Rattle.sc_world.specs.declared.world.World.{World}
use Rattle.sc_world.specs.WellFormed.{Entry}
use Rattle.sc_world_json.specs.Marks.{mark_named}

-- the name marks no object
abbrev pub is_plain_name : List ℕ → Bool
is_plain_name name = is_none (mark_named name)

-- of a value, where it is told of each value inside it: no field of a record has a name that marks
abbrev pub plain_step : Value-F Bool → Bool
plain_step (v.Set members) = list_all (λ plain. plain) members
plain_step (v.Record fields) = list_all (λ (f : List ℕ × Bool). is_plain_name f.0 && f.1) fields
plain_step _ = true

-- no record in a value has a field with a name that marks
unfoldable pub is_plain : Value → Bool
is_plain = fold-Value Bool plain_step

-- the same of a record
abbrev pub are_plain : Fields → Bool
are_plain fields = list_all (λ (f : List ℕ × Value). is_plain_name f.0 && is_plain f.1) fields

abbrev pub is_plain_entry : Entry → Bool
is_plain_entry x = are_plain x.1.attrs && are_plain x.1.tags

-- no record in a world, be it the context, attributes, tags or one inside them, has a field with a name that marks
abbrev pub plain_keys : World → Bool
plain_keys w = are_plain w.request.context && list_all is_plain_entry w.store
