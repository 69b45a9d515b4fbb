-- The sort of a typed expression. Expressions may be of types of actions, which types of a schema never name.
use Rattle.std.specs.Prelude.{ℕ, List, map}
use Rattle.sc_schema.specs.declared.ty.Presence.{Presence}
use Rattle.sc_schema.specs.declared.ty.Ty.{Ty, Ty-F, fold-Ty}
use Rattle.sc_schema.specs.declared.ty.Ty.TheOpen as t
use Rattle.sc_schema.specs.Declarations.{Declarations}
use Rattle.sc_sorts.specs.declared.sort.Sort.{Sort}
use Rattle.sc_sorts.specs.declared.sort.Sort.TheVariants as sort
use Rattle.sc_sorts.specs.Entities.{entity_sort}
use Rattle.sc_sorts.specs.OfTypes.{with_presence}

abbrev pub sort_step : Declarations → Ty-F Sort → Sort
sort_step s t.True = sort.Bool
sort_step s t.False = sort.Bool
sort_step s t.Bool = sort.Bool
sort_step s t.Long = sort.Long
sort_step s t.String = sort.String
sort_step s t.Decimal = sort.Decimal
sort_step s t.Ip = sort.Ip
sort_step s (t.Entity kind) = entity_sort s kind.name
sort_step s (t.Set member) = sort.Set member
sort_step s (t.Record fields) =
    sort.Record (map (λ (f : List ℕ × Presence × Sort). (f.0, with_presence f.1 f.2)) fields)

-- as `sort_of`, but for types of actions, which list the declared ones
unfoldable pub sort_in : Declarations → Ty → Sort
sort_in s = fold-Ty Sort (sort_step s)
