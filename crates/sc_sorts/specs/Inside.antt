-- What a sort is made of, and the sort of truth values where it isn't so made.
use Rattle.std.specs.Prelude.{ℕ, List, [], unwrap_or}
use Rattle.std.specs.Map.{lookup}
use Rattle.std.specs.Str.{bytes_eq}
use Rattle.sc_sorts.specs.declared.sort.Sort.{Sort, Sort-F, out-Sort}
use Rattle.sc_sorts.specs.declared.sort.Sort.TheVariants as sort
use Rattle.sc_sorts.specs.declared.sort.Sort.TheOpen as s

abbrev pub SortField : Type 0
SortField = List ℕ × Sort

abbrev pub SortFields : Type 0
SortFields = List SortField

abbrev pub fields_in : Sort-F Sort → SortFields
fields_in (s.Record fields) = fields
fields_in _ = []

abbrev pub held_in : Sort-F Sort → Sort
held_in (s.Option held) = held
held_in _ = sort.Bool

abbrev pub member_in : Sort-F Sort → Sort
member_in (s.Set member) = member
member_in _ = sort.Bool

-- the name of a sort of entities
abbrev pub name_in : Sort-F Sort → List ℕ
name_in (s.Entity name choices) = name
name_in _ = []

-- the sort of a record's field
abbrev pub field_sort : List ℕ → Sort → Sort
field_sort name x = unwrap_or (lookup (bytes_eq name) (fields_in (out-Sort x))) sort.Bool

abbrev pub held_sort : Sort → Sort
held_sort x = held_in (out-Sort x)

abbrev pub member_sort : Sort → Sort
member_sort x = member_in (out-Sort x)
