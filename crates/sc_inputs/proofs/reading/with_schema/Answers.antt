use Rattle.std.proofs.Common.{ap}
use Rattle.sc_outside.specs.Failures.{FailsAt}
use Rattle.sc_inputs.specs.Readings.{RefusesAsking, RefusesScene}
use Rattle.sc_inputs.specs.Refusals.{IsRefusal}
use Rattle.sc_inputs.specs.Serving.{aim_view, served_view, task_view}
use Rattle.sc_inputs.proofs.ReadingLaws.{asking_refused, scene_refused, fails_so}
use Rattle.sc_inputs.proofs.reading.with_schema.Goals as goal

pub returns-in-Ok-clause-reads : goal.returns-in-Ok-clause-reads
returns-in-Ok-clause-reads g c = c.for_aim.ensures (g.F.Files.content c.args.files.now) (served_view c.args.command.now) c.args.schema (record {
  schema = c.in-Ok.ensures.schema;
  name = _;
  task = cc (ap task_view c.in-Ask.is, c.in-Ok.ensures.question);
  policies_read = c.in-Ok.ensures.first;
  others_read = c.in-Ok.ensures.second;
  served = c.in-Ok.ensures.served;
  environment = c.in-Ok.ensures.environment;
})

pub returns-in-Err-clause-fails : goal.returns-in-Err-clause-fails
returns-in-Err-clause-fails g c =
    λ words serves reads.
    let content = g.F.Files.content c.args.files.now in
    let failed = FailsAt g.F.Files c.args.files.now c.asking_of.new.files in
    fails_so (RefusesAsking content c.args.command.now.policies.now _ (aim_view c.in-Ask.aim) failed c.args.schema) (IsRefusal content words failed)
    (asking_refused content words (served_view c.args.command.now) c.in-Ask.question _ (aim_view c.in-Ask.aim) failed c.args.schema (ap task_view c.in-Ask.is) serves reads) c.in-Err.fault c.in-Err.ensures.fails

pub returns-in-Ok-scene_of-clause-reads : goal.returns-in-Ok-scene_of-clause-reads
returns-in-Ok-scene_of-clause-reads g c = (c.in-Replay.world.now, ap task_view c.in-Replay.is, c.in-Ok-scene_of.ensures.reads)

pub returns-in-Err-scene_of-clause-fails : goal.returns-in-Err-scene_of-clause-fails
returns-in-Err-scene_of-clause-fails g c =
    λ words serves reads.
    let content = g.F.Files.content c.args.files.now in
    let failed = FailsAt g.F.Files c.args.files.now c.scene_of.new.files in
    fails_so (RefusesScene content c.args.command.now.policies.now c.in-Replay.world.now failed c.args.schema) (IsRefusal content words failed)
    (scene_refused content words (served_view c.args.command.now) c.in-Replay.world.now failed c.args.schema (ap task_view c.in-Replay.is) serves reads) c.in-Err-scene_of.fault c.in-Err-scene_of.ensures.fails
