use Rattle.std.proofs.Common.{◌∙◌, ap}
use Rattle.sc_schema.specs.declared.declarations.Env.{Env}
use Rattle.sc_model_worlds.proofs.RequestLaws.{request_by}
use Rattle.sc_model_worlds.proofs.request.listed_request.Goals as goal

pub returns : goal.returns
returns c =
    request_by c.args.problem.now c.args.m.now c.args.names.now c.args.closed.now c.in_ok-principal.principal c.in_ok-action.action c.in_ok-resource.resource c.in_ok-context.context
    c.requires.all c.in_ok-principal.ensures (c.in_ok-action.ensures ∙ ap (λ (e : Env). e.action) c.env.ensures) c.in_ok-resource.ensures c.in_ok-context.ensures
