use Rattle.std.proofs.Common.{◌∙◌, ap, option_copied}
use Rattle.sc_values.specs.declared.value.Value.TheVariants.{Record}
use Rattle.sc_world.specs.Named.{uids_in}
use Rattle.sc_world.specs.Tests.{least_missing}
use Rattle.sc_world.proofs.LeastLaws.{least_of_three}
use Rattle.sc_world.proofs.missing.least_in_entity.Goals as goal

pub returns : goal.returns
returns c =
    let es = c.args.store.now in
    let e = c.args.entity.now in
    let attrs = option_copied c.least_in_record-in_attrs.result in
    let tags = option_copied c.least_in_record-in_tags.result in
    least_of_three es (option_copied c.args.least) attrs tags (option_copied c.least_in.result) (uids_in (Record e.attrs)) (uids_in (Record e.tags)) e.ancestors
    c.least_in_record-in_attrs.ensures c.least_in_record-in_tags.ensures (c.least_in.ensures ∙ ap (least_missing es tags) c.as_slice.ensures)
