use Rattle.std.proofs.Common.{◌≡◌, ◌∙◌, IfOk, ap, subst}
use Rattle.sc_model_values.specs.Models.{model}
use Rattle.sc_model_world_laws.specs.Rebuilt.{tag_said, tag_default}
use Rattle.sc_schema.specs.Declarations.{Declarations, tags_of}
use Rattle.sc_values.specs.declared.value.Value.{Value}
use Rattle.sc_model_worlds.specs.declared.sought.Sought.TheVariants.{Tag}
use Rattle.sc_model_worlds.proofs.SaidLaws.{told_there, told_nowhere, value_told, tag_by}
use Rattle.sc_model_worlds.proofs.tags.tag_of.Goals as goal

pub returns-in-Some : goal.returns-in-Some
returns-in-Some c =
    let p = c.args.problem.now in
    let m = c.args.m.now in
    let names = c.args.names.now in
    let u = c.args.uid.now in
    let key = c.args.key.now in
    subst (λ (z : Value). IfOk c.value_at.result (λ x. x ≡ z))
    (told_there p names (Tag u key) (tag_said (model p m names) u key) (value_told p m names) (tag_by p m names u key) c.args.closed.now c.in-Some.term (tag_default p.schema (tags_of p.schema u.type_name))
    c.in_ok-found.found c.in_ok-found.ensures.value c.in-Some.is)
    c.value_at.ensures

pub returns-in-None : goal.returns-in-None
returns-in-None c =
    let p = c.args.problem.now in
    let m = c.args.m.now in
    let names = c.args.names.now in
    let u = c.args.uid.now in
    let key = c.args.key.now in
    subst (λ (z : Value). IfOk c.default_tag.result (λ x. x ≡ z))
    (ap (λ (d : Declarations). tag_default d (tags_of d c.args.uid.now.type_name)) c.schema.ensures
    ∙ told_nowhere p names (Tag u key) (tag_said (model p m names) u key) (value_told p m names) (tag_by p m names u key) c.args.closed.now (tag_default p.schema (tags_of p.schema u.type_name))
    c.in_ok-found.found c.in_ok-found.ensures.value c.in-None.is)
    c.default_tag.ensures
