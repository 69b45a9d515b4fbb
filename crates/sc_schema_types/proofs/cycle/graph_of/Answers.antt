use Rattle.std.proofs.Common.{◌≡◌, ◌<◌, [], get_or, length, ap, sym, ◌∙◌, rules}
use Rattle.std.proofs.lemmas.List.{get_or_default}
use Rattle.sc_graphs.proofs.GraphLaws.{graph_next}
use Rattle.sc_schema_types.specs.References.{references}
use Rattle.sc_schema_types.specs.Places.{named_at}
use Rattle.sc_schema_types.specs.Tables.{body_in}
use Rattle.sc_schema_types.proofs.cycle.graph_of.Goals as goal

pub loop-name-preserved : goal.loop-name-preserved
loop-name-preserved c =
    let bodies = body_in c.args.bodies.now.entries in
    let within : c.loop-name.name-index < length c.args.names.now = search rules in
    let here : get_or c.args.names.now c.loop-name.name-index [] ≡ c.name-item.result =
    get_or_default c.args.names.now c.loop-name.name-index [] c.name-item.result within ∙ sym c.name-item.is in
    graph_next c.args.names.now (named_at bodies c.args.names.now) c.loop-name.graph c.push.new.self c.loop-name.name-index c.as_slice.result.now c.in_ok-places_of.field-0 c.loop-name.invariant
    c.in_ok-push.ensures.ok (ap (references bodies) here ∙ sym (c.as_slice.ensures ∙ c.in_ok-following.ensures)) c.in_ok-places_of.ensures
