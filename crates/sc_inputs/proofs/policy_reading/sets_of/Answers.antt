use Rattle.std.proofs.Common.{option_map, Bor, List, ℕ}
use Rattle.sc_outside.specs.Failures.{FailsAt}
use Rattle.sc_inputs.specs.Readings.{RefusesSets, by_first}
use Rattle.sc_inputs.specs.Refusals.{RefusesPolicies, policies_side}
use Rattle.sc_outside.proofs.CountLaws.{failed_before, stands, told_later}
use Rattle.sc_inputs.proofs.ReadingLaws.{sets_later, against_later, fails_so}
use Rattle.sc_inputs.proofs.policy_reading.sets_of.Goals as goal

pub returns-in-Ok-others_of-clause-second : goal.returns-in-Ok-others_of-clause-second
returns-in-Ok-others_of-clause-second g c =
    against_later (g.F.Files.content c.args.files.now) (g.F.Files.content c.policies_of.new.files) _ c.in-Ok-others_of.others c.in-Ok.ensures.keeps c.in-Ok-others_of.ensures.reads

pub returns-in-Err-others_of-clause-fails : goal.returns-in-Err-others_of-clause-fails
returns-in-Err-others_of-clause-fails g c =
    sets_later (g.F.Files.content c.args.files.now) (g.F.Files.content c.policies_of.new.files) c.args.policies.now _ _ _ c.in-Ok.policies c.in-Ok.ensures.keeps
    (failed_before (g.F.Files.faults c.args.files.now) (g.F.Files.faults c.policies_of.new.files) (g.F.Files.faults c.others_of.new.files) (g.F.Files.failed c.others_of.new.files) c.in-Ok.ensures.later)
    c.in-Ok.ensures.reads c.in-Err-others_of.fault c.in-Err-others_of.ensures.fails

pub returns-in-Err-clause-fails : goal.returns-in-Err-clause-fails
returns-in-Err-clause-fails g c =
    let content = g.F.Files.content c.args.files.now in
    let failed = FailsAt g.F.Files c.args.files.now c.policies_of.new.files in
    fails_so (RefusesPolicies content c.args.policies.now policies_side failed) (RefusesSets content c.args.policies.now (option_map (λ (n : Bor (List ℕ)). n.now) c.args.against) failed) (λ a h. by_first a h) c.in-Err.fault c.in-Err.ensures.fails

pub returns-in-Ok-others_of-clause-told : goal.returns-in-Ok-others_of-clause-told
returns-in-Ok-others_of-clause-told g c =
    told_later (g.F.Files.faults c.args.files.now) (g.F.Files.faults c.policies_of.new.files) (g.F.Files.faults c.others_of.new.files)
    (stands (g.F.Files.faults c.args.files.now) (g.F.Files.faults c.policies_of.new.files) c.in-Ok.ensures.later c.in-Ok.ensures.told) c.in-Ok-others_of.ensures.told

pub returns-in-Err-others_of-clause-told : goal.returns-in-Err-others_of-clause-told
returns-in-Err-others_of-clause-told g c =
    told_later (g.F.Files.faults c.args.files.now) (g.F.Files.faults c.policies_of.new.files) (g.F.Files.faults c.others_of.new.files)
    (stands (g.F.Files.faults c.args.files.now) (g.F.Files.faults c.policies_of.new.files) c.in-Ok.ensures.later c.in-Ok.ensures.told) c.in-Err-others_of.ensures.told
