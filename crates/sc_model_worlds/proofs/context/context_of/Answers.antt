use Rattle.std.proofs.Common.{◌≡◌, ◌∙◌, IfOk, ap, subst}
use Rattle.sc_model_values.specs.Models.{model}
use Rattle.sc_model_world_laws.specs.Rebuilt.{context_said}
use Rattle.sc_schema.specs.declared.declarations.Env.{Env}
use Rattle.sc_schema.specs.Declarations.{Declarations, context_of}
use Rattle.sc_values.specs.Records.{Fields}
use Rattle.sc_world.specs.Defaults.{default_fields}
use Rattle.sc_model_worlds.specs.declared.sought.Sought.TheVariants.{Context}
use Rattle.sc_model_worlds.proofs.SaidLaws.{told_there, told_nowhere, record_told, context_by}
use Rattle.sc_model_worlds.proofs.context.context_of.Goals as goal

pub returns-in-Some : goal.returns-in-Some
returns-in-Some c =
    let p = c.args.problem.now in
    let m = c.args.m.now in
    let names = c.args.names.now in
    subst (λ (z : Fields). IfOk c.record_at.result (λ r. r ≡ z))
    (told_there p names Context (context_said (model p m names)) (record_told p m names) (context_by p m names) c.args.closed.now c.in-Some.term (default_fields p.schema (context_of p.schema p.env.action))
    c.first-found.result c.first-found.ensures.value c.in-Some.is)
    c.record_at.ensures

pub returns : goal.returns
returns c =
    let p = c.args.problem.now in
    let m = c.args.m.now in
    let names = c.args.names.now in
    subst (λ (z : Fields). IfOk c.default_context.result (λ r. r ≡ z))
    (ap (λ (d : Declarations). default_fields d (context_of d c.env.result.now.action)) c.schema.ensures
    ∙ ap (λ (e : Env). default_fields c.args.problem.now.schema (context_of c.args.problem.now.schema e.action)) c.env.ensures
    ∙ told_nowhere p names Context (context_said (model p m names)) (record_told p m names) (context_by p m names) c.args.closed.now (default_fields p.schema (context_of p.schema p.env.action))
    c.first-found.result c.first-found.ensures.value c.in-None.is)
    c.default_context.ensures
