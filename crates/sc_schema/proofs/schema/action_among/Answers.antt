use Rattle.std.proofs.Common.{◌≡◌, ◌∙◌, subst, ap, Some, None, Contains, List}
use Rattle.std.specs.List.{slice_get}
use Rattle.sc_names.specs.declared.uid.Uid.{Uid}
use Rattle.sc_names.proofs.UidLaws.{uid_cmp_total}
use Rattle.sc_schema.specs.declared.declarations.Action.{Action}
use Rattle.sc_schema.specs.Declarations.{Declarations, action, uid_eq}
use Rattle.sc_schema.proofs.AscentLaws.{action_is_lawful}
use Rattle.sc_schema.proofs.PlaceLaws.{find_place, find_none, uid_eq-Decides}
use Rattle.sc_schema.proofs.schema.action_among.Goals as goal

pub returns-in_default-clause-value : goal.returns-in_default-clause-value
returns-in_default-clause-value c =
    let uids = c.as_slice.ensures ∙ c.s.invariant.1.uids in
    let none = subst (λ (us : List Uid). ¬ Contains us c.args.uid.now) uids c.in_default.ensures.none in
    subst (λ (d : Declarations). None ≡ action d c.args.uid.now) c.s.view_is
    (find_none uid_eq uid_eq-Decides (λ (a : Action). a.uid) c.s.inside.actions c.args.uid.now none)

pub returns-clause-value : goal.returns-clause-value
returns-clause-value c =
    let uids = c.as_slice.ensures ∙ c.s.invariant.1.uids in
    let at = subst (λ (us : List Uid). slice_get us c.in-Some.at ≡ Some c.args.uid.now) uids c.in-Some.ensures.found in
    let found = find_place uid_cmp_total uid_eq uid_eq-Decides (λ (a : Action). a.uid) c.s.inside.actions c.args.uid.now c.in-Some.at c.s.invariant.0.actions_ascend at in
    c.get.ensures ∙ (found ∙ ap (λ (d : Declarations). action d c.args.uid.now) c.s.view_is)

pub returns-clause-lawful : goal.returns-clause-lawful
returns-clause-lawful c = action_is_lawful _ c.args.s.now c.s.invariant.0 c.s.view_is c.args.uid.now c.get.result (returns-clause-value c)
