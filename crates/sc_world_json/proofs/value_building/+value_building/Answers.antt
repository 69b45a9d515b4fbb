use Rattle.std.proofs.Common.{◌≡◌, ◌∙◌, ◌+◌, ℕ, List, length, get_or, drop, option_map, string_bytes, IsUtf8, arith, sym, ap, subst}
use Rattle.serde_json.specs.View.{view, items_view, members_view}
use Rattle.sc_values.specs.declared.value.Value.{Value}
use Rattle.sc_values.specs.Proper.{IsProperLevel, IsProper}
use Rattle.sc_values.proofs.LevelLaws.{in_Bool, in_String, in_Entity}
use Rattle.sc_world_json.specs.Worlds.{values_of, fields_of}
use Rattle.sc_json.proofs.WalkLaws.{items_next, items_end}
use Rattle.sc_world_json.proofs.WorldsLaws as said
use Rattle.sc_world_json.proofs.value_building.+value_building.Goals as goal

-- ---- a value, by its kind

pub value_of-returns-in-Null-clause-value : goal.value_of-returns-in-Null-clause-value
value_of-returns-in-Null-clause-value t c = said.null_said c.args.value.now c.in-Null.is

pub value_of-returns-in-Null-clause-proper : goal.value_of-returns-in-Null-clause-proper
value_of-returns-in-Null-clause-proper t c = (in_Bool IsProperLevel _).1 tt

pub value_of-returns-in-Bool-clause-value : goal.value_of-returns-in-Bool-clause-value
value_of-returns-in-Bool-clause-value t c = said.truth_said c.args.value.now c.in-Bool.truth c.in-Bool.is

pub value_of-returns-in-Bool-clause-proper : goal.value_of-returns-in-Bool-clause-proper
value_of-returns-in-Bool-clause-proper t c = (in_Bool IsProperLevel _).1 tt

pub value_of-returns-in-Number-clause-value : goal.value_of-returns-in-Number-clause-value
value_of-returns-in-Number-clause-value t c = said.number_said c.args.value.now c.in-Number.number c.long_of.result c.in-Number.is c.long_of.ensures.value

pub value_of-returns-in_ok-from_str-in-String-clause-value : goal.value_of-returns-in_ok-from_str-in-String-clause-value
value_of-returns-in_ok-from_str-in-String-clause-value t c =
    said.text_said c.args.value.now c.in-String.text c.as_str.result.now c.in_ok-from_str-in-String.field-0 c.in-String.is c.as_str.ensures.value c.in_ok-from_str-in-String.ensures

pub value_of-returns-in_ok-from_str-in-String-clause-proper : goal.value_of-returns-in_ok-from_str-in-String-clause-proper
value_of-returns-in_ok-from_str-in-String-clause-proper t c =
    (in_String IsProperLevel c.in_ok-from_str-in-String.field-0).1 (subst IsUtf8 (sym c.in_ok-from_str-in-String.ensures) c.as_str.utf8)

-- ---- sets

pub set_of-returns-clause-value : goal.set_of-returns-clause-value
set_of-returns-clause-value t c =
    said.set_said c.args.items.now.items c.in_ok-members.members.items c.in_ok-in_order.field-0 c.in_ok-members.ensures.value c.in_ok-in_order.ensures

pub set_of-returns-clause-proper : goal.set_of-returns-clause-proper
set_of-returns-clause-proper t c = said.proper_set c.in_ok-members.members.items c.in_ok-in_order.field-0 c.in_ok-in_order.ensures c.in_ok-members.ensures.proper

pub values_of-loop-item-preserved : goal.values_of-loop-item-preserved
values_of-loop-item-preserved t c =
    let whole = c.args.items.now.items in
    let n = c.loop-item.item-index in
    let all = c.deref-item-items.ensures.value in
    let x = c.item-item.result in
    let here = subst (λ vs. x ≡ get_or vs n x) all c.item-item.is in
    let split = items_next whole n x here (omega (arith, ap length all)) in
    record {
      so_far = said.values_next (values_of (items_view whole)) c.loop-item.values.items c.push.new.self.items (view x) (items_view (drop (n + 1) whole)) (items_view (drop n whole)) c.in_ok-value_of.field-0
          split c.in_ok-value_of.ensures.value c.in_ok-push.ensures.items c.loop-item.invariant.so_far;
      proper = said.all-push IsProper c.loop-item.values.items c.push.new.self.items c.in_ok-value_of.field-0 c.in_ok-push.ensures.items c.loop-item.invariant.proper c.in_ok-value_of.ensures.proper;
    }

pub values_of-returns-clause-value : goal.values_of-returns-clause-value
values_of-returns-clause-value t c =
    let whole = c.args.items.now.items in
    let n = c.loop-item.item-index in
    let all = c.deref-item-items.ensures.value in
    said.values_end (values_of (items_view whole)) c.loop-item.values.items (items_view (drop n whole)) (items_end whole n (omega (arith, ap length all))) c.loop-item.invariant.so_far

-- ---- objects

pub object_value-returns-in_ok-fields_of-in-None-clause-value : goal.object_value-returns-in_ok-fields_of-in-None-clause-value
object_value-returns-in_ok-fields_of-in-None-clause-value t c =
    said.record_said (members_view c.args.members.now.entries) c.in_ok-fields_of-in-None.field-0 c.in-None.ensures c.in_ok-fields_of-in-None.ensures.value

pub object_value-returns-in_ok-uid_of-in-Some-Entity-clause-value : goal.object_value-returns-in_ok-uid_of-in-Some-Entity-clause-value
object_value-returns-in_ok-uid_of-in-Some-Entity-clause-value t c =
    said.entity_said (members_view c.args.members.now.entries) c.in-Some-Entity.field-0 (option_map (λ v. view v.now) c.member.result) c.in_ok-uid_of-in-Some-Entity.field-0
    c.in-Some-Entity.field-0-is c.in-Some-Entity.ensures c.member.ensures c.in_ok-uid_of-in-Some-Entity.ensures.value

pub object_value-returns-in_ok-uid_of-in-Some-Entity-clause-proper : goal.object_value-returns-in_ok-uid_of-in-Some-Entity-clause-proper
object_value-returns-in_ok-uid_of-in-Some-Entity-clause-proper t c = (in_Entity IsProperLevel c.in_ok-uid_of-in-Some-Entity.field-0).1 c.in_ok-uid_of-in-Some-Entity.ensures.texts

pub object_value-returns-in-Some-Extension-clause-value : goal.object_value-returns-in-Some-Extension-clause-value
object_value-returns-in-Some-Extension-clause-value t c =
    said.extension_said (members_view c.args.members.now.entries) c.in-Some-Extension.field-0 (option_map (λ v. view v.now) c.member-in-Some-Extension.result) c.extension_of.result
    c.in-Some-Extension.field-0-is c.in-Some-Extension.ensures c.member-in-Some-Extension.ensures c.extension_of.ensures.value

pub fields_of-loop-name-preserved : goal.fields_of-loop-name-preserved
fields_of-loop-name-preserved t c =
    let so_far = rw c.in-Some.ensures.steps at c.loop-name.invariant.so_far in
    let name : c.in_ok-from_str.field-0 ≡ string_bytes c.in-Some.name.now = c.in_ok-from_str.ensures ∙ c.as_str.ensures.value in
    record {
      goes_on = tt;
      ends = tt;
      so_far = said.fields_next (fields_of (members_view c.args.members.now.entries)) c.loop-name.fields _ (string_bytes c.in-Some.name.now) (view c.in-Some.value.now) _ c.in_ok-from_str.field-0 c.in_ok-value_of.field-0
          name c.in_ok-value_of.ensures.value c.in_ok-push.ensures.ok so_far;
      texts = said.all-names c.loop-name.fields _ c.in_ok-from_str.field-0 c.in_ok-value_of.field-0 c.in_ok-push.ensures.ok c.loop-name.invariant.texts (subst IsUtf8 (sym c.in_ok-from_str.ensures) c.as_str.utf8);
      proper = said.all-push (λ (f : List ℕ × Value). IsProper f.1) c.loop-name.fields _ (c.in_ok-from_str.field-0, c.in_ok-value_of.field-0) c.in_ok-push.ensures.ok c.loop-name.invariant.proper c.in_ok-value_of.ensures.proper;
    }

pub fields_of-returns-clause-value : goal.fields_of-returns-clause-value
fields_of-returns-clause-value t c =
    said.fields_end (fields_of (members_view c.args.members.now.entries)) c.loop-name.fields (rw c.in-None.ensures.steps.0 at c.loop-name.invariant.so_far)

pub fields_of-returns-clause-proper : goal.fields_of-returns-clause-proper
fields_of-returns-clause-proper t c =
    let entries = c.args.members.now.entries in
    let is = said.fields_end (fields_of (members_view entries)) c.loop-name.fields (rw c.in-None.ensures.steps.0 at c.loop-name.invariant.so_far) in
    said.proper_record entries c.loop-name.fields is c.iter-name-items.ensures.ordered c.loop-name.invariant.texts c.loop-name.invariant.proper
