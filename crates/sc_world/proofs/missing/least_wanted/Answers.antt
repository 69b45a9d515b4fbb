use Rattle.std.proofs.Common.{◌∙◌, None, ap, option_copied}
use Rattle.std.specs.Prelude.{flat_map}
use Rattle.sc_schema.specs.Declarations.{action_uids}
use Rattle.sc_world.specs.Named.{request_uids}
use Rattle.sc_world.specs.Named.{uids_in_entry}
use Rattle.sc_world.specs.Tests.{least_missing}
use Rattle.sc_world.proofs.LeastLaws.{least_of_four}
use Rattle.sc_world.proofs.missing.least_wanted.Goals as goal

pub returns : goal.returns
returns c =
    let w = c.args.w.now in
    let in_request = option_copied c.least_in_request-in_request.result in
    let in_entities = option_copied c.least_in_entities-in_entities.result in
    let in_lits = option_copied c.least_in-in_lits.result in
    least_of_four w.store None in_request in_entities in_lits (option_copied c.least_in.result) (request_uids w.request) (flat_map uids_in_entry w.store) c.args.lits.now (action_uids c.args.s.now)
    c.least_in_request-in_request.ensures c.least_in_entities-in_entities.ensures (c.least_in-in_lits.ensures ∙ ap (least_missing w.store in_entities) c.as_slice.ensures.value)
    (c.least_in.ensures ∙ ap (least_missing w.store in_lits) c.actions.ensures.value)
