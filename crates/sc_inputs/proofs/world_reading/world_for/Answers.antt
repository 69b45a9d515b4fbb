use Rattle.sc_outside.specs.Failures.{FailsAt}
use Rattle.sc_inputs.specs.Readings.{RefusesScene, by_world}
use Rattle.sc_inputs.specs.Refusals.{RefusesWorld}
use Rattle.std.proofs.Common.{Err}
use Rattle.sc_inputs.proofs.ReadingLaws.{names_so, fails_so}
use Rattle.sc_inputs.proofs.world_reading.world_for.Goals as goal

pub returns-in-Err-check_declared-clause-fails : goal.returns-in-Err-check_declared-clause-fails
returns-in-Err-check_declared-clause-fails g c =
    λ file has.
    names_so (g.F.Files.content c.args.files.now) file c.args.name.now _ c.args.schema.now c.args.policies.now c.in-Ok.world has c.in-Ok.ensures.reads (Err c.in-Err-check_declared.fault) c.in-Err-check_declared.ensures

pub returns-in-Err-clause-fails : goal.returns-in-Err-clause-fails
returns-in-Err-clause-fails g c =
    λ file has.
    let content = g.F.Files.content c.args.files.now in
    let failed = FailsAt g.F.Files c.args.files.now c.world_of.new.files in
    fails_so (RefusesWorld content c.args.name.now failed) (RefusesScene content file c.args.name.now failed c.args.schema.now) (λ a h. by_world a c.args.policies.now has h) c.in-Err.fault c.in-Err.ensures.fails
