-- Objects inside values that are no records. Their one member marks them: as an entity, or as the value that a function
-- gives for a text.
use Rattle.std.specs.Prelude.{ℕ, List, Option, Some, None, option_map, option_and_then, if◌then◌else◌, codes}
use Rattle.std.specs.Str.{bytes_eq}
use Rattle.serde_json.specs.Data.{Members, no_members, member}
use Rattle.sc_decimal.specs.DecimalValue.{decimal_of}
use Rattle.sc_ip.specs.IpValue.{ip_of}
use Rattle.sc_values.specs.declared.value.Value.{Value}
use Rattle.sc_values.specs.declared.value.Value.TheVariants as value
use Rattle.sc_world_json.specs.declared.mark.Mark.{Mark}
use Rattle.sc_world_json.specs.declared.mark.Mark.TheVariants.{Entity, Extension}
use Rattle.sc_world_json.specs.declared.function.Function.{Function}
use Rattle.sc_world_json.specs.declared.function.Function.TheVariants.{Decimal, Ip}

-- what an object whose one member has this name is marked as
abbrev pub mark_named : List ℕ → Option Mark
mark_named name = if bytes_eq name (codes "__entity") then Some Entity
    else (if bytes_eq name (codes "__extn") then Some Extension else None)

-- the name of the one member, if there is just one
abbrev pub only_name : Members → Option (List ℕ)
only_name no_members = None
only_name (member key value no_members) = Some key
only_name (member key value (member other next ms)) = None

-- what an object is marked as, if it is
abbrev pub mark_of : Members → Option Mark
mark_of ms = option_and_then mark_named (only_name ms)

-- the function of this name
abbrev pub function_named : List ℕ → Option Function
function_named name = if bytes_eq name (codes "decimal") then Some Decimal
    else (if bytes_eq name (codes "ip") then Some Ip else None)

-- the value that a function gives for a text, if the text stands for one
abbrev pub value_by : Function → List ℕ → Option Value
value_by Decimal text = option_map value.Decimal (decimal_of text)
value_by Ip text = option_map value.Ip (ip_of text)
