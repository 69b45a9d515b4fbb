use Rattle.std.proofs.Common.{◌↔◌, Bool, true, false, IsTrue, sym, subst}
use Rattle.sc_values.specs.Proper.{IsProperRecord}
use Rattle.sc_values.proofs.ProperLaws.{proper_Bool, proper_Long, proper_String, proper_Entity, proper_Set, proper_Decimal, proper_Ip, HasNames, proper_fields}
use Rattle.sc_values.proofs.proper.+proper.Goals as goal

pub is_proper-returns-in-Bool : goal.is_proper-returns-in-Bool
is_proper-returns-in-Bool t c = proper_Bool _ _ c.in-Bool.is

pub is_proper-returns-in-Long : goal.is_proper-returns-in-Long
is_proper-returns-in-Long t c = proper_Long _ _ _ c.in-Long.is c.is_long.ensures

pub is_proper-returns-in-String : goal.is_proper-returns-in-String
is_proper-returns-in-String t c = proper_String _ _ _ c.in-String.is c.is_text.ensures

pub is_proper-returns-in-Entity : goal.is_proper-returns-in-Entity
is_proper-returns-in-Entity t c = proper_Entity _ _ _ c.in-Entity.is c.is_uid_text.ensures

pub is_proper-returns-in-Set : goal.is_proper-returns-in-Set
is_proper-returns-in-Set t c = proper_Set _ _ _ c.in-Set.is c.is_proper_set.ensures

pub is_proper-returns-in-Decimal : goal.is_proper-returns-in-Decimal
is_proper-returns-in-Decimal t c = proper_Decimal _ _ _ c.in-Decimal.is c.is_decimal.ensures

pub is_proper-returns-in-Ip : goal.is_proper-returns-in-Ip
is_proper-returns-in-Ip t c = proper_Ip _ _ _ c.in-Ip.is c.is_ip.ensures

pub is_proper_record-returns-then-named : goal.is_proper_record-returns-then-named
is_proper_record-returns-then-named t c =
    let fields = c.args.fields.now in
    let named = subst (λ (b : Bool). IsTrue b ↔ HasNames fields) c.if-named.true c.has_proper_names-named.ensures in
    proper_fields fields true _ named c.has_proper_values-proper.ensures

pub is_proper_record-returns-else-named : goal.is_proper_record-returns-else-named
is_proper_record-returns-else-named t c =
    let fields = c.args.fields.now in
    let named = subst (λ (b : Bool). IsTrue b ↔ HasNames fields) c.if-named.false c.has_proper_names-named.ensures in
    subst (λ (b : Bool). IsTrue b ↔ IsProperRecord fields) (sym c.if-named.false) (proper_fields fields false _ named c.has_proper_values-proper.ensures)
