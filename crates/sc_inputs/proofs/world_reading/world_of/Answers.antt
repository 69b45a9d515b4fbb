use Rattle.std.proofs.Common.{List, ℕ, IfOk, IfErr, subst}
use Rattle.sc_outside.specs.Failures.{FailsAt}
use Rattle.sc_world_json.specs.Reading.{SpellsWorld}
use Rattle.sc_inputs.specs.Readings.{FailsWith, IsNoWorld}
use Rattle.sc_inputs.specs.Refusals.{RefusesFile, RefusesWorld, world_file, world_unread}
use Rattle.sc_inputs.proofs.ReadingLaws.{has_world, world_so, result_fails, fails_so}
use Rattle.sc_inputs.proofs.world_reading.world_of.Goals as goal

pub returns-in-Ok-clause-reads : goal.returns-in-Ok-clause-reads
returns-in-Ok-clause-reads g c =
    has_world (g.F.Files.content c.args.files.now) c.args.name.now c.in-Ok.bytes.items c.in-Ok.ensures.found c.world_in.result
    (subst (λ (bytes : List ℕ). IfOk c.world_in.result (SpellsWorld bytes)) c.deref.ensures.value c.world_in.ensures.spelled)

pub returns-in-Ok-clause-fails : goal.returns-in-Ok-clause-fails
returns-in-Ok-clause-fails g c =
    let content = g.F.Files.content c.args.files.now in
    let failed = FailsAt g.F.Files c.args.files.now c.content_of.new.files in
    result_fails (IsNoWorld c.in-Ok.bytes.items) (RefusesWorld content c.args.name.now failed) (world_so content c.args.name.now failed c.in-Ok.bytes.items c.in-Ok.ensures.found) c.world_in.result
    (subst (λ (bytes : List ℕ). IfErr c.world_in.result (FailsWith (IsNoWorld bytes))) c.deref.ensures.value c.world_in.ensures.fails)

pub returns-in-Err-clause-fails : goal.returns-in-Err-clause-fails
returns-in-Err-clause-fails g c =
    let content = g.F.Files.content c.args.files.now in
    let failed = FailsAt g.F.Files c.args.files.now c.content_of.new.files in
    fails_so (RefusesFile content c.args.name.now failed world_file) (RefusesWorld content c.args.name.now failed) (λ a h. world_unread a h) c.in-Err.fault c.in-Err.ensures.fails
