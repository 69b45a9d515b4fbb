-- Types of records of required truth values.
use Rattle.std.specs.Prelude.{ℕ, List, Bool, true, false, ◌&&◌, if◌then◌else◌, Option, Some, None, is_some}
use Rattle.std.specs.List.{list_all}
use Rattle.sc_schema.specs.declared.ty.Presence.{Presence}
use Rattle.sc_schema.specs.declared.ty.Presence.TheVariants.{Required, Optional}
use Rattle.sc_schema.specs.declared.ty.Ty.{Ty, Ty-F, out-Ty}
use Rattle.sc_schema.specs.declared.ty.Ty.TheOpen as t

abbrev pub Field : Type 0
Field = List ℕ × Presence × Ty

abbrev pub is_bool : Ty-F Ty → Bool
is_bool t.Bool = true
is_bool _ = false

abbrev pub is_required : Presence → Bool
is_required Required = true
is_required Optional = false

-- a required truth value
abbrev pub is_bool_field : Field → Bool
is_bool_field a = is_required a.1 && is_bool (out-Ty a.2)

abbrev pub plain_in : Ty-F Ty → Option (List Field)
plain_in (t.Record fields) = if list_all is_bool_field fields then Some fields else None
plain_in _ = None

-- the fields of a type of records that have required truth values alone; none of another type
abbrev pub plain_fields : Ty → Option (List Field)
plain_fields x = plain_in (out-Ty x)

abbrev pub is_plain : Ty → Bool
is_plain x = is_some (plain_fields x)
