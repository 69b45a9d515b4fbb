-- The line that declares the datatype of each sort.
use Rattle.std.proofs.Common.{◌≡◌, ℕ, List, [], ap}
use Rattle.sc_names.specs.declared.uid.Uid.{Uid}
use Rattle.sc_sorts.specs.declared.sort.Sort.{Sort}
use Rattle.sc_sorts.specs.declared.sort.Sort.TheVariants as sort
use Rattle.sc_sorts.proofs.OutLaws.{out_Bool, out_Long, out_String, out_Decimal, out_Ip, out_Entity, out_Set, out_Record, out_Option}
use Rattle.sc_smtlib_forms.specs.Forms.{plain}
use Rattle.sc_smtlib_forms.specs.declared.form.Form.TheVariants as form
use Rattle.sc_smtlib_terms.specs.Sorts.{data_level, data_line, entity_data, record_data, option_data}

pub data_Bool : (ds : List Sort) → data_line ds sort.Bool ≡ []
unfolding data_line
data_Bool ds = ap (data_level ds sort.Bool) out_Bool

pub data_Long : (ds : List Sort) → data_line ds sort.Long ≡ []
unfolding data_line
data_Long ds = ap (data_level ds sort.Long) out_Long

pub data_String : (ds : List Sort) → data_line ds sort.String ≡ []
unfolding data_line
data_String ds = ap (data_level ds sort.String) out_String

pub data_Decimal : (ds : List Sort) → data_line ds sort.Decimal ≡ []
unfolding data_line
data_Decimal ds = ap (data_level ds sort.Decimal) out_Decimal

pub data_Ip : (ds : List Sort) → data_line ds sort.Ip ≡ plain form.AddressData
unfolding data_line
data_Ip ds = ap (data_level ds sort.Ip) out_Ip

pub data_Entity : (ds : List Sort) (name : List ℕ) (choices : List Uid)
    → data_line ds (sort.Entity name choices) ≡ entity_data ds (sort.Entity name choices) name choices
unfolding data_line
data_Entity ds name choices = ap (data_level ds (sort.Entity name choices)) (out_Entity name choices)

pub data_Set : (ds : List Sort) (member : Sort) → data_line ds (sort.Set member) ≡ []
unfolding data_line
data_Set ds member = ap (data_level ds (sort.Set member)) (out_Set member)

pub data_Record : (ds : List Sort) (fields : List (List ℕ × Sort))
    → data_line ds (sort.Record fields) ≡ record_data ds (sort.Record fields) fields
unfolding data_line
data_Record ds fields = ap (data_level ds (sort.Record fields)) (out_Record fields)

pub data_Option : (ds : List Sort) (held : Sort) → data_line ds (sort.Option held) ≡ option_data ds (sort.Option held) held
unfolding data_line
data_Option ds held = ap (data_level ds (sort.Option held)) (out_Option held)
