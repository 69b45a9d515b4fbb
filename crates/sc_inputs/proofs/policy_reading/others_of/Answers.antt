use Rattle.std.proofs.Common.{refl}
use Rattle.sc_outside.specs.Failures.{FailsAt}
use Rattle.sc_inputs.specs.Readings.{RefusesSets, by_against}
use Rattle.sc_inputs.specs.Refusals.{RefusesPolicies, against_side}
use Rattle.sc_inputs.proofs.ReadingLaws.{fails_so}
use Rattle.sc_inputs.proofs.policy_reading.others_of.Goals as goal

pub returns-in-Err-clause-fails : goal.returns-in-Err-clause-fails
returns-in-Err-clause-fails g c =
    λ file ps has.
    let content = g.F.Files.content c.args.files.now in
    let failed = FailsAt g.F.Files c.args.files.now c.policies_of.new.files in
    fails_so (RefusesPolicies content c.in-Some.name.now against_side failed) (RefusesSets content file _ failed) (λ a h. by_against a ps c.in-Some.name.now has (rw c.in-Some.is refl) h) c.in-Err.fault c.in-Err.ensures.fails
