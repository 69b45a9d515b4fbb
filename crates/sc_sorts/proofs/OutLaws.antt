-- What each sort is made of.
use Rattle.std.proofs.Common.{◌≡◌, sym, ap, ◌∙◌}
use Rattle.sc_sorts.specs.declared.sort.Sort.{out-Sort, out-roll-Sort}
use Rattle.sc_sorts.specs.declared.sort.Sort.TheVariants as sort
use Rattle.sc_sorts.specs.declared.sort.Sort.TheVariants.{rolls-Bool, rolls-Long, rolls-String, rolls-Decimal, rolls-Ip, rolls-Entity, rolls-Set, rolls-Record, rolls-Option}
use Rattle.sc_sorts.specs.declared.sort.Sort.TheOpen as s

pub out_Bool : out-Sort sort.Bool ≡ s.Bool
out_Bool = ap out-Sort (sym rolls-Bool) ∙ out-roll-Sort s.Bool

pub out_Long : out-Sort sort.Long ≡ s.Long
out_Long = ap out-Sort (sym rolls-Long) ∙ out-roll-Sort s.Long

pub out_String : out-Sort sort.String ≡ s.String
out_String = ap out-Sort (sym rolls-String) ∙ out-roll-Sort s.String

pub out_Decimal : out-Sort sort.Decimal ≡ s.Decimal
out_Decimal = ap out-Sort (sym rolls-Decimal) ∙ out-roll-Sort s.Decimal

pub out_Ip : out-Sort sort.Ip ≡ s.Ip
out_Ip = ap out-Sort (sym rolls-Ip) ∙ out-roll-Sort s.Ip

pub out_Entity : (name : _) (choices : _) → out-Sort (sort.Entity name choices) ≡ s.Entity name choices
out_Entity name choices = ap out-Sort (sym (rolls-Entity name choices)) ∙ out-roll-Sort (s.Entity name choices)

pub out_Set : (member : _) → out-Sort (sort.Set member) ≡ s.Set member
out_Set member = ap out-Sort (sym (rolls-Set member)) ∙ out-roll-Sort (s.Set member)

pub out_Record : (fields : _) → out-Sort (sort.Record fields) ≡ s.Record fields
out_Record fields = ap out-Sort (sym (rolls-Record fields)) ∙ out-roll-Sort (s.Record fields)

pub out_Option : (held : _) → out-Sort (sort.Option held) ≡ s.Option held
out_Option held = ap out-Sort (sym (rolls-Option held)) ∙ out-roll-Sort (s.Option held)
