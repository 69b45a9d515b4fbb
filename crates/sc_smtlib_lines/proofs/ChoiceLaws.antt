-- The line of the ids of each sort.
use Rattle.std.proofs.Common.{◌≡◌, ℕ, List, [], ap}
use Rattle.sc_names.specs.declared.uid.Uid.{Uid}
use Rattle.sc_sorts.specs.declared.sort.Sort.{Sort}
use Rattle.sc_sorts.specs.declared.sort.Sort.TheVariants as sort
use Rattle.sc_sorts.proofs.OutLaws.{out_Bool, out_Long, out_String, out_Decimal, out_Ip, out_Entity, out_Set, out_Record, out_Option}
use Rattle.sc_smtlib_lines.specs.Scripts.{choices_in, choices_lines, ids_lines}

pub of_Bool : (ds : List Sort) → choices_lines ds sort.Bool ≡ []
unfolding choices_lines
of_Bool ds = ap (choices_in ds sort.Bool) out_Bool

pub of_Long : (ds : List Sort) → choices_lines ds sort.Long ≡ []
unfolding choices_lines
of_Long ds = ap (choices_in ds sort.Long) out_Long

pub of_String : (ds : List Sort) → choices_lines ds sort.String ≡ []
unfolding choices_lines
of_String ds = ap (choices_in ds sort.String) out_String

pub of_Decimal : (ds : List Sort) → choices_lines ds sort.Decimal ≡ []
unfolding choices_lines
of_Decimal ds = ap (choices_in ds sort.Decimal) out_Decimal

pub of_Ip : (ds : List Sort) → choices_lines ds sort.Ip ≡ []
unfolding choices_lines
of_Ip ds = ap (choices_in ds sort.Ip) out_Ip

pub of_Entity : (ds : List Sort) (name : List ℕ) (choices : List Uid)
    → choices_lines ds (sort.Entity name choices) ≡ ids_lines ds (sort.Entity name choices) choices
unfolding choices_lines
of_Entity ds name choices = ap (choices_in ds (sort.Entity name choices)) (out_Entity name choices)

pub of_Set : (ds : List Sort) (member : Sort) → choices_lines ds (sort.Set member) ≡ []
unfolding choices_lines
of_Set ds member = ap (choices_in ds (sort.Set member)) (out_Set member)

pub of_Record : (ds : List Sort) (fields : List (List ℕ × Sort)) → choices_lines ds (sort.Record fields) ≡ []
unfolding choices_lines
of_Record ds fields = ap (choices_in ds (sort.Record fields)) (out_Record fields)

pub of_Option : (ds : List Sort) (held : Sort) → choices_lines ds (sort.Option held) ≡ []
unfolding choices_lines
of_Option ds held = ap (choices_in ds (sort.Option held)) (out_Option held)
