use Rattle.std.proofs.Common.{option_copied}
use Rattle.sc_values.specs.declared.value.Value.TheVariants.{Record}
use Rattle.sc_world.specs.Named.{uids_in}
use Rattle.sc_world.proofs.LeastLaws.{least_of_request}
use Rattle.sc_world.proofs.missing.least_in_request.Goals as goal

pub returns : goal.returns
returns c =
    let r = c.args.r.now in
    least_of_request c.args.store.now (option_copied c.lesser-principal.result) (option_copied c.lesser-action.result) (option_copied c.lesser-resource.result) (option_copied c.least_in_record.result)
    r.principal r.action r.resource (uids_in (Record r.context)) c.lesser-principal.ensures c.lesser-action.ensures c.lesser-resource.ensures c.least_in_record.ensures
