-- Types that are larger than a type may be, and record types.
use Rattle.std.specs.Prelude.{Bool, true, false, ◌||◌, nat_lt}
use Rattle.sc_schema.specs.declared.ty.Ty.{Ty, Ty-F, out-Ty}
use Rattle.sc_schema.specs.declared.ty.Ty.TheOpen as t
use Rattle.sc_schema.specs.Sizes.{levels, nodes, max_levels, max_nodes}

abbrev pub is_too_large : Ty → Bool
is_too_large u = nat_lt max_levels (levels u) || nat_lt max_nodes (nodes u)

abbrev pub is_record_level : Ty-F Ty → Bool
is_record_level (t.Record fields) = true
is_record_level _ = false

abbrev pub is_record : Ty → Bool
is_record u = is_record_level (out-Ty u)
