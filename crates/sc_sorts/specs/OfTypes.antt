-- The sort of each type.
use Rattle.std.specs.Prelude.{ℕ, List, map}
use Rattle.sc_schema.specs.declared.ty.Presence.{Presence}
use Rattle.sc_schema.specs.declared.ty.Presence.TheVariants.{Required, Optional}
use Rattle.sc_schema.specs.declared.ty.Ty.{Ty, Ty-F, fold-Ty}
use Rattle.sc_schema.specs.declared.ty.Ty.TheOpen as t
use Rattle.sc_sorts.specs.Entities.{uids_of}
use Rattle.sc_sorts.specs.declared.sort.Sort.{Sort}
use Rattle.sc_sorts.specs.declared.sort.Sort.TheVariants as sort

-- a field that a record may lack is of an option sort
abbrev pub with_presence : Presence → Sort → Sort
with_presence Required s = s
with_presence Optional s = sort.Option s

abbrev pub sort_step : Ty-F Sort → Sort
sort_step t.True = sort.Bool
sort_step t.False = sort.Bool
sort_step t.Bool = sort.Bool
sort_step t.Long = sort.Long
sort_step t.String = sort.String
sort_step t.Decimal = sort.Decimal
sort_step t.Ip = sort.Ip
sort_step (t.Entity kind) = sort.Entity kind.name (uids_of kind)
sort_step (t.Set member) = sort.Set member
sort_step (t.Record fields) = sort.Record (map (λ (f : List ℕ × Presence × Sort). (f.0, with_presence f.1 f.2)) fields)

-- the sort of a type's values
unfoldable pub sort_of : Ty → Sort
sort_of = fold-Ty Sort sort_step

-- the sort of a record's field
abbrev pub field_sort : List ℕ × Presence × Ty → List ℕ × Sort
field_sort f = (f.0, with_presence f.1 (sort_of f.2))
