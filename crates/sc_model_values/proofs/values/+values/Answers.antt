use Rattle.std.proofs.Common.{rules, ◌≡◌, ◌<◌, ◌∙◌, Some, map, length, get_or, slice_get, sym, ap, subst}
use Rattle.std.proofs.lemmas.Option.{slice_get-get_or}
use Rattle.std.specs.List.{AllByRecursion}
use Rattle.std.proofs.lemmas.Result.{IfOk-weaker}
use Rattle.sc_model_values.specs.Models.{model, truth_in}
use Rattle.sc_model_laws.specs.Assignments.{lit}
use Rattle.sc_model_laws.specs.Vals.{elements, val_of}
use Rattle.sc_sorts.specs.Inside.{SortField, SortFields}
use Rattle.sc_sorts.specs.declared.sort.Sort.{the_lemmas}
use Rattle.sc_sorts.specs.declared.sort.Sort.TheVariants as sort
use Rattle.sc_model_values.specs.Parts.{IsOf}
use Rattle.sc_terms.specs.Folds.{field_term}
use Rattle.sc_terms.specs.Tables.{tree, IsTable}
use Rattle.sc_terms.specs.Trees.{Tree}
use Rattle.sc_terms.specs.Values.{field_of, value_in}
use Rattle.sc_model_values.proofs.AssignedLaws.{elements_are}
use Rattle.sc_model_values.proofs.ValueLaws.{bool_at, long_at, string_at, decimal_at, ip_at, entity_at, set_at, record_at, option_at, shown_plain, shown_held, shown_absent, set_told, one_more_field}
use Rattle.sc_model_values.proofs.values.+values.Goals as goal

pub plain_value-returns-in-Bool : goal.plain_value-returns-in-Bool
plain_value-returns-in-Bool n c = bool_at c.args.problem.now c.args.m.now c.args.names.now c.args.sort.now (tree c.args.problem.now.nodes c.args.term) _ c.in-Bool.is c.truth.ensures

pub plain_value-returns-in-Long : goal.plain_value-returns-in-Long
plain_value-returns-in-Long n c =
    IfOk-weaker c.long_value.result _ _ (λ v h. long_at c.args.problem.now c.args.m.now c.args.names.now c.args.sort.now (tree c.args.problem.now.nodes c.args.term) v c.in-Long.is h) c.long_value.ensures

pub plain_value-returns-in-String : goal.plain_value-returns-in-String
plain_value-returns-in-String n c =
    IfOk-weaker c.string_value.result _ _ (λ v h. string_at c.args.problem.now c.args.m.now c.args.names.now c.args.sort.now (tree c.args.problem.now.nodes c.args.term) v c.in-String.is h) c.string_value.ensures

pub plain_value-returns-in-Decimal : goal.plain_value-returns-in-Decimal
plain_value-returns-in-Decimal n c =
    IfOk-weaker c.decimal_value.result _ _ (λ v h. decimal_at c.args.problem.now c.args.m.now c.args.names.now c.args.sort.now (tree c.args.problem.now.nodes c.args.term) v c.in-Decimal.is h) c.decimal_value.ensures

pub plain_value-returns-in-Ip : goal.plain_value-returns-in-Ip
plain_value-returns-in-Ip n c =
    IfOk-weaker c.ip_value.result _ _ (λ v h. ip_at c.args.problem.now c.args.m.now c.args.names.now c.args.sort.now (tree c.args.problem.now.nodes c.args.term) v c.in-Ip.is h) c.ip_value.ensures

pub plain_value-returns-in-Entity : goal.plain_value-returns-in-Entity
plain_value-returns-in-Entity n c =
    IfOk-weaker c.entity_value.result _ _ (λ v h. entity_at c.args.problem.now c.args.m.now c.args.names.now c.args.sort.now (tree c.args.problem.now.nodes c.args.term) _ _ v c.in-Entity.is (h c.args.m.now)) c.entity_value.ensures

pub plain_value-returns-in_ok-members-in-Set : goal.plain_value-returns-in_ok-members-in-Set
plain_value-returns-in_ok-members-in-Set n c =
    set_at c.args.problem.now c.args.m.now c.args.names.now c.args.sort.now (tree c.args.problem.now.nodes c.args.term) c.get.result.now _ (c.in-Set.is ∙ ap sort.Set (sym c.get.ensures)) c.in_ok-members-in-Set.ensures

pub plain_value-returns-in_ok-fields-in-Record : goal.plain_value-returns-in_ok-fields-in-Record
plain_value-returns-in_ok-fields-in-Record n c =
    record_at c.args.problem.now c.args.m.now c.args.names.now c.args.sort.now (tree c.args.problem.now.nodes c.args.term) _ _ c.in-Record.is c.in_ok-fields-in-Record.ensures

pub plain_value-returns-in-Option : goal.plain_value-returns-in-Option
plain_value-returns-in-Option n c = option_at c.args.problem.now c.args.m.now c.args.names.now c.args.sort.now (tree c.args.problem.now.nodes c.args.term) _ c.in-Option.is

pub shown_value-returns-in_ok-plain_value-in_default : goal.shown_value-returns-in_ok-plain_value-in_default
shown_value-returns-in_ok-plain_value-in_default n c =
    ap Some c.in_ok-plain_value-in_default.ensures ∙ shown_plain c.args.problem.now c.args.m.now c.args.names.now c.args.sort.now (tree c.args.problem.now.nodes c.args.term) c.in_default.not-Option

pub option_value-returns-in_ok-plain_value : goal.option_value-returns-in_ok-plain_value
option_value-returns-in_ok-plain_value n c =
    ap Some c.in_ok-plain_value.ensures
    ∙ shown_held c.args.problem.now c.args.m.now c.args.names.now c.args.inner.now (tree c.args.problem.now.nodes c.args.term) (tree c.args.problem.now.nodes c.held-part.result)
    (sym (c.truth.ensures ∙ ap (lit (truth_in c.args.problem.now c.args.m.now)) c.present.ensures.value) ∙ c.if-truth.true) c.held-part.ensures.value

pub option_value-returns-else-truth : goal.option_value-returns-else-truth
option_value-returns-else-truth n c =
    shown_absent c.args.problem.now c.args.m.now c.args.names.now c.args.inner.now (tree c.args.problem.now.nodes c.args.term)
    (sym (c.truth.ensures ∙ ap (lit (truth_in c.args.problem.now c.args.m.now)) c.present.ensures.value) ∙ c.if-truth.false)

pub record_value-put_field-requires : goal.record_value-put_field-requires
record_value-put_field-requires n c =
    let within : c.loop-place.place < length c.args.fields.now = search rules in
    let is : c.entry-item.result ≡ get_or c.args.fields.now c.loop-place.place c.entry-item.result =
    subst (λ (fs : SortFields). c.entry-item.result ≡ get_or fs c.loop-place.place c.entry-item.result) c.as_slice-entry-items.ensures c.entry-item.is in
    let at : slice_get c.args.fields.now c.loop-place.place ≡ Some c.entry-item.result =
    slice_get-get_or c.args.fields.now c.loop-place.place c.entry-item.result within ∙ ap Some (sym is) in
    (search (rules, the_lemmas), (c.field-part.ensures c.entry-item.result at).0)

pub record_value-loop-place-preserved : goal.record_value-loop-place-preserved
record_value-loop-place-preserved n c =
    let within : c.loop-place.place < length c.args.fields.now = search rules in
    let is : c.entry-item.result ≡ get_or c.args.fields.now c.loop-place.place c.entry-item.result =
    subst (λ (fs : SortFields). c.entry-item.result ≡ get_or fs c.loop-place.place c.entry-item.result) c.as_slice-entry-items.ensures c.entry-item.is in
    let at : slice_get c.args.fields.now c.loop-place.place ≡ Some c.entry-item.result =
    slice_get-get_or c.args.fields.now c.loop-place.place c.entry-item.result within ∙ ap Some (sym is) in
    one_more_field (λ (f : SortField). field_of (f.0, val_of (model c.args.problem.now c.args.m.now c.args.names.now) f.1 (field_term f.0 (tree c.args.problem.now.nodes c.args.term))))
    c.args.fields.now c.loop-place.place c.entry-item.result c.loop-place.record c.put_field.new.put
    (field_of (c.entry-item.result.0, val_of (model c.args.problem.now c.args.m.now c.args.names.now) c.entry-item.result.1 (tree c.args.problem.now.nodes c.field-part.result)))
    at c.loop-place.invariant c.in_ok-put_field.ensures
    (ap (λ (t : Tree). field_of (c.entry-item.result.0, val_of (model c.args.problem.now c.args.m.now c.args.names.now) c.entry-item.result.1 t)) (c.field-part.ensures c.entry-item.result at).1)

pub set_value-member_values-requires : goal.set_value-member_values-requires
set_value-member_values-requires n c = (
  search rules,
  subst (AllByRecursion (IsOf c.args.problem.now c.args.member.now)) (sym c.as_slice.ensures)
      (elements_are c.closed_laws.ensures.judged c.args.problem.now c.laws.ensures (subst IsTable c.terms.ensures c.laws-2.ensures) c.args.m.now c.args.names.now c.args.member.now c.args.term _
      c.requires c.in_ok-terms.ensures.within (c.in_ok-terms.ensures.value c.args.names.now)),
)

pub set_value-returns : goal.set_value-returns
set_value-returns n c =
    IfOk-weaker c.set_of.result _ _
    (λ s h. set_told (λ y. value_in (val_of (model c.args.problem.now c.args.m.now c.args.names.now) c.args.member.now y)) (tree c.args.problem.now.nodes) c.as_slice.result.now
    (elements (model c.args.problem.now c.args.m.now c.args.names.now) (tree c.args.problem.now.nodes c.args.term)) c.as_slice-2.result.now s
    (ap (map (tree c.args.problem.now.nodes)) c.as_slice.ensures ∙ c.in_ok-terms.ensures.value c.args.names.now)
    (c.as_slice-2.ensures ∙ c.in_ok-members.ensures) h) c.set_of.ensures
