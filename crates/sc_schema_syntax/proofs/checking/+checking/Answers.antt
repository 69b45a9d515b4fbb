use Rattle.std.proofs.Common.{◌≡◌, ◌∙◌, ℕ, List, Option, Some, None, IfOk, string_bytes, length, get_or, ap, sym, subst, arith, rules}
use Rattle.serde_json.specs.View.{view, items_view}
use Rattle.sc_schema_syntax.specs.declared.fault.SchemaFault.{SchemaFault}
use Rattle.sc_schema_syntax.specs.declared.form.Form.{Form}
use Rattle.sc_schema_syntax.specs.Pointers.{under}
use Rattle.sc_schema_syntax.specs.Forms.{admits_text, form_at}
use Rattle.sc_schema_syntax.specs.Faults.{shape_fault, value_fault, member_fault}
use Rattle.sc_json.proofs.WalkLaws.{fault_of_item, no_fault_of_item, no_items_left, fault_of_member, no_fault_of_member}
use Rattle.sc_schema_syntax.proofs.FaultsLaws.{items_walk, members_walk}
use Rattle.sc_schema_syntax.proofs.FormsLaws.{list_told}
use Rattle.sc_json.proofs.ViewLaws.{view_null, view_truth, view_number, view_text}
use Rattle.sc_schema_syntax.proofs.checking.+checking.Goals as goal

pub value_fault-returns-in-Null : goal.value_fault-returns-in-Null
unfolding value_fault
value_fault-returns-in-Null t c =
    subst (λ (told : Option SchemaFault). IfOk c.shape_fault.result (λ fault. fault ≡ told))
    (sym (ap (value_fault c.args.form) (view_null c.args.value.now c.in-Null.is))) c.shape_fault.ensures

pub value_fault-returns-in-Bool : goal.value_fault-returns-in-Bool
unfolding value_fault
value_fault-returns-in-Bool t c =
    subst (λ (told : Option SchemaFault). IfOk c.shape_fault-in-Bool.result (λ fault. fault ≡ told))
    (ap shape_fault c.admits_truth.ensures ∙ sym (ap (value_fault c.args.form) (view_truth c.args.value.now c.in-Bool.truth c.in-Bool.is))) c.shape_fault-in-Bool.ensures

pub value_fault-returns-in-Number : goal.value_fault-returns-in-Number
unfolding value_fault
value_fault-returns-in-Number t c =
    subst (λ (told : Option SchemaFault). IfOk c.shape_fault-in-Number.result (λ fault. fault ≡ told))
    (sym (ap (value_fault c.args.form) (view_number c.args.value.now c.in-Number.field-0 c.in-Number.is))) c.shape_fault-in-Number.ensures

pub value_fault-returns-in-String : goal.value_fault-returns-in-String
unfolding value_fault
value_fault-returns-in-String t c =
    let text = c.as_str.ensures.value in
    subst (λ (told : Option SchemaFault). IfOk c.shape_fault-in-String.result (λ fault. fault ≡ told))
    (ap shape_fault c.admits_text.ensures
    ∙ (ap (λ (s : List ℕ). shape_fault (admits_text c.args.form s)) text
    ∙ sym (ap (value_fault c.args.form) (view_text c.args.value.now c.in-String.text c.in-String.is)))) c.shape_fault-in-String.ensures

pub list_fault-returns-in-Some : goal.list_fault-returns-in-Some
unfolding value_fault
list_fault-returns-in-Some t c =
    subst (λ (told : Option SchemaFault). IfOk c.items_fault.result (λ fault. fault ≡ told))
    (list_told c.args.form (Some c.in-Some.each) c.args.items.now.items _ (search rules) c.in-Some.ensures) c.items_fault.ensures

pub list_fault-returns-in-None : goal.list_fault-returns-in-None
unfolding value_fault
list_fault-returns-in-None t c =
    subst (λ (told : Option SchemaFault). IfOk c.shape_fault.result (λ fault. fault ≡ told))
    (list_told c.args.form None c.args.items.now.items _ (search rules) c.in-None.ensures) c.shape_fault.ensures

pub object_fault-returns-in-Some : goal.object_fault-returns-in-Some
unfolding value_fault
object_fault-returns-in-Some t c = rw (← c.in-Some.ensures) c.level_fault.ensures

pub object_fault-returns-in-None : goal.object_fault-returns-in-None
unfolding value_fault
object_fault-returns-in-None t c = rw (← c.in-None.ensures) c.shape_fault.ensures

pub items_fault-returns-in-Some : goal.items_fault-returns-in-Some
items_fault-returns-in-Some t c =
    let n = c.loop-number.number in
    let all = c.deref-item-items.ensures.value in
    let x = c.item-item.result in
    let here = subst (λ vs. x ≡ get_or vs n x) all c.item-item.is in
    let told = sym c.in-Some.is ∙ (c.in_ok-fault.ensures ∙ ap (λ (form : Form). value_fault form (view x)) c.form_at-form.ensures) in
    ap Some c.in_ok-under_item.ensures
    ∙ fault_of_item (items_walk (form_at c.args.each (items_view c.args.items.now.items))) c.args.items.now.items n x c.in-Some.fault here (omega (arith, ap length all)) c.loop-number.invariant told

pub items_fault-loop-number-preserved : goal.items_fault-loop-number-preserved
items_fault-loop-number-preserved t c =
    let n = c.loop-number.number in
    let all = c.deref-item-items.ensures.value in
    let x = c.item-item.result in
    let here = subst (λ vs. x ≡ get_or vs n x) all c.item-item.is in
    let told = sym c.in_default.is ∙ (c.in_ok-fault.ensures ∙ ap (λ (form : Form). value_fault form (view x)) c.form_at-form.ensures) in
    no_fault_of_item (items_walk (form_at c.args.each (items_view c.args.items.now.items))) c.args.items.now.items n x here (omega (arith, ap length all)) c.loop-number.invariant told

pub items_fault-returns : goal.items_fault-returns
items_fault-returns t c =
    let all = c.deref-item-items.ensures.value in
    no_items_left (items_walk (form_at c.args.each (items_view c.args.items.now.items))) c.args.items.now.items c.loop-number.number (omega (arith, ap length all)) c.loop-number.invariant

pub members_fault-returns-in-Some-2 : goal.members_fault-returns-in-Some-2
members_fault-returns-in-Some-2 t c =
    let rest = rw c.in-Some.ensures.steps at c.loop-name.invariant.rest in
    let key : c.as_str.result.now ≡ string_bytes c.in-Some.name.now = c.as_str.ensures.value in
    let again : c.as_str-in-Some-2.result.now ≡ string_bytes c.in-Some.name.now = c.as_str-in-Some-2.ensures.value in
    let told = sym c.in-Some-2.is ∙ (c.in_ok-fault.ensures ∙ ap (λ k. member_fault c.args.level k (view c.in-Some.value.now)) key) in
    ap Some (c.in_ok-under.ensures ∙ ap (λ k. under k c.in-Some-2.fault) again)
    ∙ fault_of_member (members_walk c.args.level) (string_bytes c.in-Some.name.now) (view c.in-Some.value.now) _ _ c.in-Some-2.fault rest told

pub members_fault-loop-name-preserved : goal.members_fault-loop-name-preserved
members_fault-loop-name-preserved t c =
    let rest = rw c.in-Some.ensures.steps at c.loop-name.invariant.rest in
    let key : c.as_str.result.now ≡ string_bytes c.in-Some.name.now = c.as_str.ensures.value in
    let told = sym c.in_default.is ∙ (c.in_ok-fault.ensures ∙ ap (λ k. member_fault c.args.level k (view c.in-Some.value.now)) key) in
    record {
      goes_on = tt;
      ends = tt;
      rest = no_fault_of_member (members_walk c.args.level) (string_bytes c.in-Some.name.now) (view c.in-Some.value.now) _ _ rest told;
    }

pub members_fault-returns : goal.members_fault-returns
unfolding value_fault
members_fault-returns t c = sym (rw c.in-None.ensures.steps.0 at c.loop-name.invariant.rest)
