use Rattle.std.proofs.Common.{rules, ◌∙◌, sym, ap, subst, IsTrue, find}
use Rattle.std.specs.List.Sorted.{IsStrictlySortedBy}
use Rattle.std.specs.Str.{bytes_eq}
use Rattle.sc_lists.specs.Ordered.{StandsAt, BelongsAt}
use Rattle.sc_names.specs.Uids.{text_cmp}
use Rattle.sc_schema.proofs.FieldLaws.{names, field_there, no_field}
use Rattle.sc_schema.proofs.fields.Fields.find.Goals as goal

pub returns-in-Ok : goal.returns-in-Ok
returns-in-Ok g c =
    let known : IsTrue c.self.inside.ascending = search rules in
    let ascend = subst (λ fs. IsStrictlySortedBy text_cmp (names fs)) (sym c.get-fields.ensures) (c.self.invariant known) in
    let stands = subst (λ fs. StandsAt text_cmp (names fs) c.args.name.now c.in-Ok.at) c.as_slice-2.ensures c.in-Ok.ensures.found in
    c.get.ensures ∙ field_there c.get-fields.result.now c.args.name.now c.in-Ok.at ascend stands
    ∙ ap (λ fs. find (λ f. bytes_eq c.args.name.now f.0) fs) (c.get-fields.ensures ∙ c.self.view_is)

pub returns-in-Err : goal.returns-in-Err
returns-in-Err g c =
    let belongs = subst (λ fs. BelongsAt text_cmp (names fs) c.args.name.now c.in-Err.field-0) c.as_slice-2.ensures c.in-Err.ensures.absent in
    no_field c.get-fields.result.now c.args.name.now c.in-Err.field-0 belongs ∙ ap (λ fs. find (λ f. bytes_eq c.args.name.now f.0) fs) (c.get-fields.ensures ∙ c.self.view_is)
