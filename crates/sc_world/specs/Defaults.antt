-- The default of each type, and what is stored of an entity where nothing else is known of it.
use Rattle.std.specs.Prelude.{ℕ, List, [], ◌∷◌, find, flat_map, unwrap_or, Option, Some, None, false, true, pos}
use Rattle.std.specs.Str.{bytes_eq}
use Rattle.sc_ip.specs.declared.ip.Ip.TheVariants.{V4}
use Rattle.sc_names.specs.declared.uid.Uid.{Uid}
use Rattle.sc_schema.specs.declared.declarations.Env.{Env}
use Rattle.sc_schema.specs.declared.ty.Presence.{Presence}
use Rattle.sc_schema.specs.declared.ty.Presence.TheVariants.{Required, Optional}
use Rattle.sc_schema.specs.declared.ty.Ty.{Ty, Ty-F, fold-Ty}
use Rattle.sc_schema.specs.declared.ty.Ty.TheOpen as t
use Rattle.sc_schema.specs.Declarations.{Declarations, action_uids, action_ancestors, attrs_of, choices_of, context_of}
use Rattle.sc_values.specs.declared.value.Value.{Value, Value-F, out-Value}
use Rattle.sc_values.specs.declared.value.Value.TheOpen as v
use Rattle.sc_values.specs.declared.value.Value.TheVariants as value
use Rattle.sc_values.specs.Records.{Fields}
use Rattle.sc_world.specs.declared.entity.EntityData.{EntityData}
use Rattle.sc_world.specs.declared.world.Request.{Request}

-- the entity with no id
abbrev pub nameless : List ℕ → Uid
nameless name = record { type_name = name; id = [] }

-- the first entity of a type with these choices: with the first of them as its id, and with no id where there is none
abbrev pub first_entity : List ℕ → List (List ℕ) → Uid
first_entity name [] = nameless name
first_entity name (id ∷ ids) = record { type_name = name; id = id }

-- the default entity of a type: its least declared action, and where it has none its first entity
abbrev pub default_uid : Declarations → List ℕ → Uid
default_uid s name = unwrap_or (find (λ (u : Uid). bytes_eq name u.type_name) (action_uids s))
    (first_entity name (choices_of s name))

-- a record has by default the fields that it may not lack
abbrev pub default_field : Presence → List ℕ → Value → Fields
default_field Required name x = (name, x) ∷ []
default_field Optional name x = []

abbrev pub default_step : Declarations → Ty-F Value → Value
default_step s t.True = value.Bool true
default_step s t.False = value.Bool false
default_step s t.Bool = value.Bool false
default_step s t.Long = value.Long (pos 0)
default_step s t.String = value.String []
default_step s t.Decimal = value.Decimal (pos 0)
default_step s t.Ip = value.Ip (V4 0 32)
default_step s (t.Entity kind) = value.Entity (default_uid s kind.name)
default_step s (t.Set member) = value.Set []
default_step s (t.Record fields) =
    value.Record (flat_map (λ (f : List ℕ × Presence × Value). default_field f.1 f.0 f.2) fields)

-- the default of a type
unfoldable pub default_value : Declarations → Ty → Value
default_value s = fold-Ty Value (default_step s)

abbrev pub fields_in : Value-F Value → Fields
fields_in (v.Record fields) = fields
fields_in _ = []

-- the fields of a record type's default
abbrev pub default_fields : Declarations → Option Ty → Fields
default_fields s None = []
default_fields s (Some type) = fields_in (out-Value (default_value s type))

-- the default attributes of an entity, by its type
abbrev pub default_attrs : Declarations → List ℕ → Fields
default_attrs s name = default_fields s (attrs_of s name)

-- what is stored of an entity by default: an action's declared ancestors and no others, and no tags
abbrev pub default_data : Declarations → Uid → EntityData
default_data s u = record {
  attrs = default_attrs s u.type_name;
  ancestors = unwrap_or (action_ancestors s u) [];
  tags = [];
}

-- the request of an environment, by default
abbrev pub default_request : Declarations → Env → Request
default_request s env =
    record {
      principal = default_uid s env.principal;
      action = env.action;
      resource = default_uid s env.resource;
      context = default_fields s (context_of s env.action);
    }
