use Rattle.std.proofs.Common.{◌≡◌, ◌∙◌, IfOk, ap, subst}
use Rattle.sc_model_values.specs.Models.{model}
use Rattle.sc_model_world_laws.specs.Rebuilt.{attributes_said}
use Rattle.sc_schema.specs.Declarations.{Declarations}
use Rattle.sc_values.specs.Records.{Fields}
use Rattle.sc_world.specs.Defaults.{default_attrs}
use Rattle.sc_model_worlds.specs.declared.sought.Sought.TheVariants.{Attributes}
use Rattle.sc_model_worlds.proofs.SaidLaws.{told_there, told_nowhere, record_told, attributes_by}
use Rattle.sc_model_worlds.proofs.attributes.attributes_of.Goals as goal

pub returns-in-Some : goal.returns-in-Some
returns-in-Some c =
    let p = c.args.problem.now in
    let m = c.args.m.now in
    let names = c.args.names.now in
    let u = c.args.uid.now in
    subst (λ (z : Fields). IfOk c.record_at.result (λ r. r ≡ z))
    (told_there p names (Attributes u) (attributes_said (model p m names) u) (record_told p m names) (attributes_by p m names u) c.args.closed.now c.in-Some.term (default_attrs p.schema u.type_name)
    c.in_ok-found.found c.in_ok-found.ensures.value c.in-Some.is)
    c.record_at.ensures

pub returns-in-None : goal.returns-in-None
returns-in-None c =
    let p = c.args.problem.now in
    let m = c.args.m.now in
    let names = c.args.names.now in
    let u = c.args.uid.now in
    subst (λ (z : Fields). IfOk c.default_attributes.result (λ r. r ≡ z))
    (ap (λ (d : Declarations). default_attrs d c.args.uid.now.type_name) c.schema.ensures
    ∙ told_nowhere p names (Attributes u) (attributes_said (model p m names) u) (record_told p m names) (attributes_by p m names u) c.args.closed.now (default_attrs p.schema u.type_name)
    c.in_ok-found.found c.in_ok-found.ensures.value c.in-None.is)
    c.default_attributes.ensures
