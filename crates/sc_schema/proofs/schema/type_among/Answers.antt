use Rattle.std.proofs.Common.{◌≡◌, ◌∙◌, subst, ap, Some, None, Contains, List, ℕ}
use Rattle.std.specs.List.{slice_get}
use Rattle.std.specs.Str.{bytes_eq}
use Rattle.std.proofs.lemmas.Cmp.{nat_list_cmp_total}
use Rattle.std.proofs.lemmas.Slice.Eq.{bytes_eq-Decides}
use Rattle.sc_schema.specs.declared.declarations.EntityType.{EntityType}
use Rattle.sc_schema.specs.Declarations.{Declarations, entity_type}
use Rattle.sc_schema.proofs.AscentLaws.{type_is_lawful}
use Rattle.sc_schema.proofs.PlaceLaws.{find_place, find_none}
use Rattle.sc_schema.proofs.schema.type_among.Goals as goal

pub returns-in_default-clause-value : goal.returns-in_default-clause-value
returns-in_default-clause-value c =
    let names = c.as_slice.ensures ∙ c.s.invariant.1.names in
    let none = subst (λ (ns : List (List ℕ)). ¬ Contains ns c.args.name.now) names c.in_default.ensures.none in
    subst (λ (d : Declarations). None ≡ entity_type d c.args.name.now) c.s.view_is
    (find_none bytes_eq bytes_eq-Decides (λ (t : EntityType). t.name) c.s.inside.types c.args.name.now none)

pub returns-clause-value : goal.returns-clause-value
returns-clause-value c =
    let names = c.as_slice.ensures ∙ c.s.invariant.1.names in
    let at = subst (λ (ns : List (List ℕ)). slice_get ns c.in-Some.at ≡ Some c.args.name.now) names c.in-Some.ensures.found in
    let found = find_place nat_list_cmp_total bytes_eq bytes_eq-Decides (λ (t : EntityType). t.name) c.s.inside.types c.args.name.now c.in-Some.at c.s.invariant.0.types_ascend at in
    c.get.ensures ∙ (found ∙ ap (λ (d : Declarations). entity_type d c.args.name.now) c.s.view_is)

pub returns-clause-lawful : goal.returns-clause-lawful
returns-clause-lawful c = type_is_lawful _ c.args.s.now c.s.invariant.0 c.s.view_is c.args.name.now c.get.result (returns-clause-value c)
