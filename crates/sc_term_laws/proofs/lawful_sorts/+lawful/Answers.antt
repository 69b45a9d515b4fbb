use Rattle.std.proofs.Common.{◌≡◌, List, length, get_or, arith, rules, ap, subst}
use Rattle.sc_sorts.specs.Inside.{SortField}
use Rattle.sc_term_laws.proofs.LawfulSortLaws.{field_fails, bool_lawful, long_lawful, string_lawful, decimal_lawful, ip_lawful, entity_lawful, set_lawful, record_lawful, option_lawful}
use Rattle.sc_term_laws.proofs.lawful_sorts.+lawful.Goals as goal

pub is_lawful_sort-returns-in-Bool : goal.is_lawful_sort-returns-in-Bool
is_lawful_sort-returns-in-Bool t c = bool_lawful _ _ c.in-Bool.is

pub is_lawful_sort-returns-in-Long : goal.is_lawful_sort-returns-in-Long
is_lawful_sort-returns-in-Long t c = long_lawful _ _ c.in-Long.is

pub is_lawful_sort-returns-in-String : goal.is_lawful_sort-returns-in-String
is_lawful_sort-returns-in-String t c = string_lawful _ _ c.in-String.is

pub is_lawful_sort-returns-in-Decimal : goal.is_lawful_sort-returns-in-Decimal
is_lawful_sort-returns-in-Decimal t c = decimal_lawful _ _ c.in-Decimal.is

pub is_lawful_sort-returns-in-Ip : goal.is_lawful_sort-returns-in-Ip
is_lawful_sort-returns-in-Ip t c = ip_lawful _ _ c.in-Ip.is

pub is_lawful_sort-returns-in-Entity : goal.is_lawful_sort-returns-in-Entity
is_lawful_sort-returns-in-Entity t c = entity_lawful _ _ _ _ _ c.in-Entity.is c.is_lawful_entity.ensures

pub is_lawful_sort-returns-in-Set : goal.is_lawful_sort-returns-in-Set
is_lawful_sort-returns-in-Set t c = set_lawful _ _ _ _ _ c.in-Set.is c.get.ensures c.is_lawful_held.ensures

pub is_lawful_sort-returns-in-Record : goal.is_lawful_sort-returns-in-Record
is_lawful_sort-returns-in-Record t c = record_lawful _ _ _ _ c.in-Record.is c.is_lawful_record.ensures

pub is_lawful_sort-returns-in-Option : goal.is_lawful_sort-returns-in-Option
is_lawful_sort-returns-in-Option t c = option_lawful _ _ _ _ _ c.in-Option.is c.get-in-Option.ensures c.is_lawful_held-in-Option.ensures

pub are_lawful_fields-returns-then-not-lawful : goal.are_lawful_fields-returns-then-not-lawful
are_lawful_fields-returns-then-not-lawful t c =
    let fs = c.args.fields.now in
    let i = c.loop-field.field-index in
    let all = c.as_slice-field-items.ensures in
    let x = c.field-item.result in
    let here = subst (λ (vs : List SortField). x ≡ get_or vs i x) all c.field-item.is in
    field_fails c.args.schema.now fs i x _ here (omega (arith, ap length all)) c.in_ok-lawful.ensures (search rules)
