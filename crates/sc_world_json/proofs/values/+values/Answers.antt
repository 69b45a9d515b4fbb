use Rattle.std.proofs.Common.{◌≡◌, ◌∙◌, ap, sym, subst, rules, arith, length, get_or}
use Rattle.serde_json.specs.Data.{object}
use Rattle.serde_json.proofs.Views.{view-Object}
use Rattle.sc_values.specs.declared.value.Value.{the_lemmas}
use Rattle.sc_values.specs.Proper.{IsProper}
use Rattle.sc_world_json.specs.Text.{value_data}
use Rattle.sc_world_json.proofs.ProperLaws.{proper_members, proper_field, ascending_fields}
use Rattle.sc_world_json.proofs.TextLaws.{value_data-Record, put_next}
use Rattle.sc_world_json.proofs.values.+values.Goals as goal

pub json_value-member_values-requires : goal.json_value-member_values-requires
json_value-member_values-requires t c = (search (rules, the_lemmas), proper_members c.in-Set.members (subst IsProper c.in-Set.is c.requires))

pub json_value-field_values-requires : goal.json_value-field_values-requires
json_value-field_values-requires t c = (search (rules, the_lemmas), subst IsProper c.in-Record.is c.requires)

pub json_value-returns-in_ok-field_values-in-Record : goal.json_value-returns-in_ok-field_values-in-Record
json_value-returns-in_ok-field_values-in-Record t c =
    view-Object c.in_ok-field_values-in-Record.field-0 ∙ ap object c.in_ok-field_values-in-Record.ensures
    ∙ sym (ap value_data c.in-Record.is ∙ value_data-Record c.in-Record.fields)

pub field_values-loop-field-preserved : goal.field_values-loop-field-preserved
field_values-loop-field-preserved t c =
    let fields = c.args.fields.now in
    let i = c.loop-field.field-index in
    let all = c.as_slice-field-items.ensures in
    let here = subst (λ fs. c.field-item.result ≡ get_or fs i c.field-item.result) all c.field-item.is in
    let next = put_next fields i c.field-item.result (omega (arith, ap length all)) here (ascending_fields fields c.requires) in
    c.in_ok-put.ensures.ok ∙ rw (c.as_str.ensures, c.in_ok-json_value.ensures, c.loop-field.invariant) next

pub field_values-json_value-requires : goal.field_values-json_value-requires
field_values-json_value-requires t c =
    let all = c.as_slice-field-items.ensures in
    let here = subst (λ fs. c.field-item.result ≡ get_or fs c.loop-field.field-index c.field-item.result) all c.field-item.is in
    (search (rules, the_lemmas), proper_field c.args.fields.now c.loop-field.field-index c.field-item.result here (omega (arith, ap length all)) c.requires)
