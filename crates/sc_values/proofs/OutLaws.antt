-- One level of a value.
use Rattle.std.proofs.Common.{◌≡◌, ap, sym, ◌∙◌}
use Rattle.sc_values.specs.declared.value.Value.{out-Value, out-roll-Value}
use Rattle.sc_values.specs.declared.value.Value.TheVariants as value
use Rattle.sc_values.specs.declared.value.Value.TheVariants.{rolls-Bool, rolls-Long, rolls-String, rolls-Entity, rolls-Set, rolls-Record, rolls-Decimal, rolls-Ip}
use Rattle.sc_values.specs.declared.value.Value.TheOpen as v

pub out_Bool : (b : _) → out-Value (value.Bool b) ≡ v.Bool b
out_Bool b = ap out-Value (sym (rolls-Bool b)) ∙ out-roll-Value (v.Bool b)

pub out_Long : (n : _) → out-Value (value.Long n) ≡ v.Long n
out_Long n = ap out-Value (sym (rolls-Long n)) ∙ out-roll-Value (v.Long n)

pub out_String : (text : _) → out-Value (value.String text) ≡ v.String text
out_String text = ap out-Value (sym (rolls-String text)) ∙ out-roll-Value (v.String text)

pub out_Entity : (u : _) → out-Value (value.Entity u) ≡ v.Entity u
out_Entity u = ap out-Value (sym (rolls-Entity u)) ∙ out-roll-Value (v.Entity u)

pub out_Set : (members : _) → out-Value (value.Set members) ≡ v.Set members
out_Set members = ap out-Value (sym (rolls-Set members)) ∙ out-roll-Value (v.Set members)

pub out_Record : (fields : _) → out-Value (value.Record fields) ≡ v.Record fields
out_Record fields = ap out-Value (sym (rolls-Record fields)) ∙ out-roll-Value (v.Record fields)

pub out_Decimal : (n : _) → out-Value (value.Decimal n) ≡ v.Decimal n
out_Decimal n = ap out-Value (sym (rolls-Decimal n)) ∙ out-roll-Value (v.Decimal n)

pub out_Ip : (ip : _) → out-Value (value.Ip ip) ≡ v.Ip ip
out_Ip ip = ap out-Value (sym (rolls-Ip ip)) ∙ out-roll-Value (v.Ip ip)
