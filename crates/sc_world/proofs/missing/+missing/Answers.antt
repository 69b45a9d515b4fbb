use Rattle.std.proofs.Common.{◌≡◌, ℕ, List, length, get_or, option_copied, ap, subst, arith}
use Rattle.std.specs.Prelude.{flat_map}
use Rattle.sc_values.specs.declared.value.Value.{Value}
use Rattle.sc_values.specs.declared.value.Value.TheVariants as value
use Rattle.sc_world.specs.Named.{uids_in}
use Rattle.sc_world.specs.Tests.{least_missing}
use Rattle.sc_world.proofs.LeastLaws.{least_next, least_end}
use Rattle.sc_world.proofs.UidsLaws.{uids_Bool, uids_Long, uids_String, uids_Decimal, uids_Ip, least_of_none, least_of_entity, least_of_set, least_of_record, least_of_fields}
use Rattle.sc_world.proofs.missing.+missing.Goals as goal

pub least_in_value-returns-in-Bool : goal.least_in_value-returns-in-Bool
least_in_value-returns-in-Bool t c = least_of_none c.args.store.now (option_copied c.args.least) c.args.v.now (value.Bool c.in-Bool.field-0) c.in-Bool.is (uids_Bool c.in-Bool.field-0)

pub least_in_value-returns-in-Long : goal.least_in_value-returns-in-Long
least_in_value-returns-in-Long t c = least_of_none c.args.store.now (option_copied c.args.least) c.args.v.now (value.Long c.in-Long.field-0) c.in-Long.is (uids_Long c.in-Long.field-0)

pub least_in_value-returns-in-String : goal.least_in_value-returns-in-String
least_in_value-returns-in-String t c = least_of_none c.args.store.now (option_copied c.args.least) c.args.v.now (value.String c.in-String.field-0) c.in-String.is (uids_String c.in-String.field-0)

pub least_in_value-returns-in-Decimal : goal.least_in_value-returns-in-Decimal
least_in_value-returns-in-Decimal t c = least_of_none c.args.store.now (option_copied c.args.least) c.args.v.now (value.Decimal c.in-Decimal.field-0) c.in-Decimal.is (uids_Decimal c.in-Decimal.field-0)

pub least_in_value-returns-in-Ip : goal.least_in_value-returns-in-Ip
least_in_value-returns-in-Ip t c = least_of_none c.args.store.now (option_copied c.args.least) c.args.v.now (value.Ip c.in-Ip.field-0) c.in-Ip.is (uids_Ip c.in-Ip.field-0)

pub least_in_value-returns-in-Entity : goal.least_in_value-returns-in-Entity
least_in_value-returns-in-Entity t c =
    least_of_entity c.args.store.now (option_copied c.args.least) (option_copied c.lesser.result) c.args.v.now c.in-Entity.uid c.in-Entity.is c.lesser.ensures

pub least_in_value-returns-in-Set : goal.least_in_value-returns-in-Set
least_in_value-returns-in-Set t c =
    least_of_set c.args.store.now (option_copied c.args.least) (option_copied c.least_in_set.result) c.args.v.now c.in-Set.members c.in-Set.is c.least_in_set.ensures

pub least_in_value-returns-in-Record : goal.least_in_value-returns-in-Record
least_in_value-returns-in-Record t c =
    least_of_record c.args.store.now (option_copied c.args.least) (option_copied c.least_in_record.result) c.args.v.now c.in-Record.fields c.in-Record.is c.least_in_record.ensures

pub least_in_set-loop-member-preserved : goal.least_in_set-loop-member-preserved
least_in_set-loop-member-preserved t c =
    let xs = c.args.members.now in
    let n = c.loop-member.member-index in
    let all = c.as_slice-member-items.ensures in
    let x = c.member-item.result in
    let here = subst (λ vs. x ≡ get_or vs n x) all c.member-item.is in
    least_next c.args.store.now uids_in (option_copied c.loop-member.least) (option_copied c.least_in_value-least.result) (least_missing c.args.store.now (option_copied c.args.so_far) (flat_map uids_in xs)) xs n x here
    (omega (arith, ap length all)) c.least_in_value-least.ensures c.loop-member.invariant

pub least_in_set-returns : goal.least_in_set-returns
least_in_set-returns t c =
    let xs = c.args.members.now in
    let all = c.as_slice-member-items.ensures in
    least_end c.args.store.now uids_in (option_copied c.loop-member.least) (least_missing c.args.store.now (option_copied c.args.so_far) (flat_map uids_in xs)) xs c.loop-member.member-index (omega (arith, ap length all)) c.loop-member.invariant

pub least_in_record-loop-field-preserved : goal.least_in_record-loop-field-preserved
least_in_record-loop-field-preserved t c =
    let fs = c.args.fields.now in
    let n = c.loop-field.field-index in
    let all = c.as_slice-field-items.ensures in
    let x = c.field-item.result in
    let here = subst (λ vs. x ≡ get_or vs n x) all c.field-item.is in
    least_next c.args.store.now (λ (f : List ℕ × Value). uids_in f.1) (option_copied c.loop-field.least) (option_copied c.least_in_value-least.result)
    (least_missing c.args.store.now (option_copied c.args.so_far) (flat_map (λ (f : List ℕ × Value). uids_in f.1) fs)) fs n x here (omega (arith, ap length all)) c.least_in_value-least.ensures c.loop-field.invariant

pub least_in_record-returns : goal.least_in_record-returns
least_in_record-returns t c =
    let fs = c.args.fields.now in
    let all = c.as_slice-field-items.ensures in
    least_of_fields c.args.store.now (option_copied c.args.so_far) (option_copied c.loop-field.least) fs
    (least_end c.args.store.now (λ (f : List ℕ × Value). uids_in f.1) (option_copied c.loop-field.least) (least_missing c.args.store.now (option_copied c.args.so_far) (flat_map (λ (f : List ℕ × Value). uids_in f.1) fs)) fs
    c.loop-field.field-index (omega (arith, ap length all)) c.loop-field.invariant)
