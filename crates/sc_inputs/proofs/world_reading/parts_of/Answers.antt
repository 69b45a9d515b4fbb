use Rattle.sc_outside.specs.Failures.{FailsAt}
use Rattle.sc_inputs.specs.Readings.{RefusesScene, by_policies}
use Rattle.sc_inputs.specs.Refusals.{RefusesPolicies, policies_side}
use Rattle.sc_outside.proofs.CountLaws.{failed_before, stands, told_later}
use Rattle.sc_inputs.proofs.ReadingLaws.{scene_later, world_later, fails_so}
use Rattle.sc_inputs.proofs.world_reading.parts_of.Goals as goal

pub returns-in-Ok-world_for-clause-world : goal.returns-in-Ok-world_for-clause-world
returns-in-Ok-world_for-clause-world g c =
    world_later (g.F.Files.content c.args.files.now) (g.F.Files.content c.policies_of.new.files) c.args.world.now c.in-Ok-world_for.world c.in-Ok.ensures.keeps c.in-Ok-world_for.ensures.reads

pub returns-in-Err-world_for-clause-fails : goal.returns-in-Err-world_for-clause-fails
returns-in-Err-world_for-clause-fails g c =
    scene_later (g.F.Files.content c.args.files.now) (g.F.Files.content c.policies_of.new.files) c.args.policies.now c.args.world.now _ _ c.args.schema.now c.in-Ok.policies c.in-Ok.ensures.keeps
    (failed_before (g.F.Files.faults c.args.files.now) (g.F.Files.faults c.policies_of.new.files) (g.F.Files.faults c.world_for.new.files) (g.F.Files.failed c.world_for.new.files) c.in-Ok.ensures.later)
    c.in-Ok.ensures.reads c.in-Err-world_for.fault c.in-Err-world_for.ensures.fails

pub returns-in-Err-clause-fails : goal.returns-in-Err-clause-fails
returns-in-Err-clause-fails g c =
    let content = g.F.Files.content c.args.files.now in
    let failed = FailsAt g.F.Files c.args.files.now c.policies_of.new.files in
    fails_so (RefusesPolicies content c.args.policies.now policies_side failed) (RefusesScene content c.args.policies.now c.args.world.now failed c.args.schema.now) (λ a h. by_policies a h)
    c.in-Err.fault c.in-Err.ensures.fails

pub returns-in-Ok-world_for-clause-told : goal.returns-in-Ok-world_for-clause-told
returns-in-Ok-world_for-clause-told g c =
    told_later (g.F.Files.faults c.args.files.now) (g.F.Files.faults c.policies_of.new.files) (g.F.Files.faults c.world_for.new.files)
    (stands (g.F.Files.faults c.args.files.now) (g.F.Files.faults c.policies_of.new.files) c.in-Ok.ensures.later c.in-Ok.ensures.told) c.in-Ok-world_for.ensures.told

pub returns-in-Err-world_for-clause-told : goal.returns-in-Err-world_for-clause-told
returns-in-Err-world_for-clause-told g c =
    told_later (g.F.Files.faults c.args.files.now) (g.F.Files.faults c.policies_of.new.files) (g.F.Files.faults c.world_for.new.files)
    (stands (g.F.Files.faults c.args.files.now) (g.F.Files.faults c.policies_of.new.files) c.in-Ok.ensures.later c.in-Ok.ensures.told) c.in-Err-world_for.ensures.told
