-- Which values are of a type.
use Rattle.std.specs.Prelude.{◌&&◌, ℕ, List, map, Bool, true, false, not, Option, Some, None}
use Rattle.std.specs.List.{list_all, list_any}
use Rattle.std.specs.Str.{bytes_eq}
use Rattle.sc_schema.specs.declared.ty.EntityKind.{EntityKind}
use Rattle.sc_schema.specs.declared.ty.Presence.{Presence}
use Rattle.sc_schema.specs.declared.ty.Presence.TheVariants.{Required, Optional}
use Rattle.sc_schema.specs.declared.ty.Ty.{Ty, Ty-F, fold-Ty}
use Rattle.sc_schema.specs.declared.ty.Ty.TheOpen as t
use Rattle.sc_values.specs.declared.value.Value.{Value, Value-F, out-Value}
use Rattle.sc_values.specs.declared.value.Value.TheOpen as v
use Rattle.sc_values.specs.Records.{Fields, field}
use Rattle.sc_world.specs.Choices.{is_choice}

-- the test of a type
abbrev pub Test : Type 0
Test = Value → Bool

abbrev pub is_bool : Value-F Value → Bool
is_bool (v.Bool b) = true
is_bool _ = false

-- the truth value of a value, where it is one
abbrev pub is_truth : Bool → Value-F Value → Bool
is_truth true (v.Bool b) = b
is_truth false (v.Bool b) = not b
is_truth _ _ = false

abbrev pub is_long : Value-F Value → Bool
is_long (v.Long n) = true
is_long _ = false

abbrev pub is_string : Value-F Value → Bool
is_string (v.String text) = true
is_string _ = false

abbrev pub is_decimal : Value-F Value → Bool
is_decimal (v.Decimal n) = true
is_decimal _ = false

abbrev pub is_ip : Value-F Value → Bool
is_ip (v.Ip ip) = true
is_ip _ = false

-- an entity of a type, with a choice as its id if the type is enumerated
abbrev pub is_entity_of : EntityKind → Value-F Value → Bool
is_entity_of kind (v.Entity u) = bytes_eq u.type_name kind.name && is_choice kind.choices u.id
is_entity_of kind _ = false

-- a set with members of a type
abbrev pub is_set_of : Test → Value-F Value → Bool
is_set_of test (v.Set members) = list_all test members
is_set_of test _ = false

-- the fields of a type: each with its name, whether it is required, and its type's test
abbrev pub Shape : Type 0
Shape = List (List ℕ × Presence × Test)

-- a field that isn't there was not required
abbrev pub may_lack : Presence → Bool
may_lack Required = false
may_lack Optional = true

abbrev pub passes : Presence → Test → Option Value → Bool
passes presence test None = may_lack presence
passes presence test (Some x) = test x

-- each field of the type that is there is of its type, each required one is there, and no other is
abbrev pub has_shape : Shape → Fields → Bool
has_shape shape fields =
    list_all (λ (a : List ℕ × Presence × Test). passes a.1 a.2 (field a.0 fields)) shape
    && list_all (λ (f : List ℕ × Value). list_any (λ (a : List ℕ × Presence × Test). bytes_eq f.0 a.0) shape) fields

abbrev pub is_record_of : Shape → Value-F Value → Bool
is_record_of shape (v.Record fields) = has_shape shape fields
is_record_of shape _ = false

abbrev pub conforms_step : Ty-F Test → Test
conforms_step t.True x = is_truth true (out-Value x)
conforms_step t.False x = is_truth false (out-Value x)
conforms_step t.Bool x = is_bool (out-Value x)
conforms_step t.Long x = is_long (out-Value x)
conforms_step t.String x = is_string (out-Value x)
conforms_step t.Decimal x = is_decimal (out-Value x)
conforms_step t.Ip x = is_ip (out-Value x)
conforms_step (t.Entity kind) x = is_entity_of kind (out-Value x)
conforms_step (t.Set test) x = is_set_of test (out-Value x)
conforms_step (t.Record shape) x = is_record_of shape (out-Value x)

-- a value is of a type
unfoldable pub conforms : Ty → Value → Bool
conforms = fold-Ty Test conforms_step

-- the shape of a record type
abbrev pub shape_of : List (List ℕ × Presence × Ty) → Shape
shape_of attributes = map (λ (a : List ℕ × Presence × Ty). (a.0, a.1, conforms a.2)) attributes
