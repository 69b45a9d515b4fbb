use Rattle.std.proofs.Common.{option_copied}
use Rattle.std.specs.Prelude.{flat_map}
use Rattle.sc_world.specs.Named.{uids_in_entry}
use Rattle.sc_world.specs.Tests.{least_missing}
use Rattle.sc_world.proofs.LeastLaws.{least_step, least_stop}
use Rattle.sc_world.proofs.missing.least_in_entities.Goals as goal

pub loop-entity-preserved : goal.loop-entity-preserved
loop-entity-preserved c =
    let es = c.args.store.now in
    record {
      goes_on = tt;
      ends = tt;
      so_far = least_step es uids_in_entry (option_copied c.loop-entity.least) (option_copied c.least_in_entity-least.result) (least_missing es (option_copied c.args.so_far) (flat_map uids_in_entry es)) _ _ _
          c.in-Some.ensures.steps c.least_in_entity-least.ensures c.loop-entity.invariant.so_far;
    }

pub returns : goal.returns
returns c =
    let es = c.args.store.now in
    least_stop es uids_in_entry (option_copied c.loop-entity.least) (least_missing es (option_copied c.args.so_far) (flat_map uids_in_entry es)) _ c.in-None.ensures.steps.0 c.loop-entity.invariant.so_far
