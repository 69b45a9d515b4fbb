use Rattle.std.proofs.Common.{List, ℕ, subst}
use Rattle.sc_outside.specs.Failures.{FailsAt}
use Rattle.sc_schema_json.specs.Spelling.{Spells}
use Rattle.sc_inputs.specs.Readings.{FailsWith, IsNoSchema}
use Rattle.sc_inputs.specs.Refusals.{IsRefusal, of_schema, RefusesFile, schema_file, schema_unread}
use Rattle.sc_inputs.specs.Serving.{served_view}
use Rattle.sc_outside.proofs.CountLaws.{failed_before, stands, told_later}
use Rattle.sc_inputs.proofs.ReadingLaws.{inputs_later, rest_fails, schema_so, fails_so}
use Rattle.sc_inputs.proofs.reading.with_command.Goals as goal

pub returns-in-Ok-schema_in-clause-reads : goal.returns-in-Ok-schema_in-clause-reads
returns-in-Ok-schema_in-clause-reads g c =
    inputs_later (g.F.Files.content c.args.files.now) (g.F.Files.content c.content_of.new.files) (served_view c.args.command.now) c.in-Ok-schema_in.schema c.in-Ok.ensures.keeps
    (record {
      bytes = c.in-Ok.bytes.items;
      told = c.in-Ok.ensures.found;
      spelled = subst (λ bytes. Spells bytes c.in-Ok-schema_in.schema) c.deref.ensures.value c.in-Ok-schema_in.ensures.spelled;
    }) c.with_schema.result c.with_schema.ensures.reads

pub returns-in-Ok-schema_in-clause-fails : goal.returns-in-Ok-schema_in-clause-fails
returns-in-Ok-schema_in-clause-fails g c =
    rest_fails (g.F.Files.content c.args.files.now) (g.F.Files.content c.content_of.new.files) (served_view c.args.command.now) _ _ c.in-Ok-schema_in.schema c.in-Ok.ensures.keeps
    (failed_before (g.F.Files.faults c.args.files.now) (g.F.Files.faults c.content_of.new.files) (g.F.Files.faults c.with_schema.new.files) (g.F.Files.failed c.with_schema.new.files) c.in-Ok.ensures.later)
    (record {
      bytes = c.in-Ok.bytes.items;
      told = c.in-Ok.ensures.found;
      spelled = subst (λ bytes. Spells bytes c.in-Ok-schema_in.schema) c.deref.ensures.value c.in-Ok-schema_in.ensures.spelled;
    }) c.with_schema.result c.with_schema.ensures.fails

pub returns-in-Ok-clause-fails : goal.returns-in-Ok-clause-fails
returns-in-Ok-clause-fails g c =
    λ words serves.
    let content = g.F.Files.content c.args.files.now in
    let failed = FailsAt g.F.Files c.args.files.now c.content_of.new.files in
    fails_so (IsNoSchema c.in-Ok.bytes.items) (IsRefusal content words failed)
    (λ a h. of_schema a (served_view c.args.command.now) serves (schema_so content (served_view c.args.command.now) failed c.in-Ok.bytes.items c.in-Ok.ensures.found a h)) c.in-Err-schema_in.fault
    (subst (λ (bytes : List ℕ). FailsWith (IsNoSchema bytes) c.in-Err-schema_in.fault) c.deref.ensures.value c.in-Err-schema_in.ensures.fails)

pub returns-clause-fails : goal.returns-clause-fails
returns-clause-fails g c =
    λ words serves.
    let content = g.F.Files.content c.args.files.now in
    let failed = FailsAt g.F.Files c.args.files.now c.content_of.new.files in
    fails_so (RefusesFile content c.args.command.now.schema.now failed schema_file) (IsRefusal content words failed) (λ a h. of_schema a (served_view c.args.command.now) serves (schema_unread a h)) c.in-Err.fault c.in-Err.ensures.fails

pub returns-in-Ok-schema_in-clause-told : goal.returns-in-Ok-schema_in-clause-told
returns-in-Ok-schema_in-clause-told g c =
    told_later (g.F.Files.faults c.args.files.now) (g.F.Files.faults c.content_of.new.files) (g.F.Files.faults c.with_schema.new.files)
    (stands (g.F.Files.faults c.args.files.now) (g.F.Files.faults c.content_of.new.files) c.in-Ok.ensures.later c.in-Ok.ensures.told) c.with_schema.ensures.told

pub returns-in-Ok-clause-told : goal.returns-in-Ok-clause-told
returns-in-Ok-clause-told g c =
    λ up. absurd (c.in-Ok.ensures.told up)
