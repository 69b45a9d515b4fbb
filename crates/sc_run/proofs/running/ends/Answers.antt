use Rattle.std.proofs.Common.{◌∙◌, ℕ, refl, subst, sym}
use Rattle.sc_command.specs.CommandLine.{words_view}
use Rattle.sc_inputs.specs.Readings.{FailsWith, IsRead, IsReadFault}
use Rattle.sc_inputs.specs.Refusals.{IsRefusal}
use Rattle.sc_outside.proofs.CountLaws.{failed_before, stands, told_later}
use Rattle.sc_outside.specs.Failures.{FailsAt}
use Rattle.sc_schema.specs.Declarations.{environments}
use Rattle.sc_run.specs.Runs.{MustBe, generated, reduced, reported, wrote_log}
use Rattle.sc_inputs.specs.Serving.{checking, logging, reducing, reporting}
use Rattle.sc_inputs.proofs.ServingLaws.{size_within}
use Rattle.sc_reports.proofs.AnalysisLaws.{may-be-asked}
use Rattle.sc_run.proofs.ReductionLaws.{reducible}
use Rattle.sc_run.proofs.StatusLaws.{claim-ends, found-at, refusal-ends, replay-ends, unread-must}
use Rattle.sc_run.proofs.running.ends.Goals as goal

pub report-requires : goal.report-requires
report-requires g c =
    let i = c.in-Ok-Asked.analysis in
    record {
      allowed = may-be-asked (g.F.Files.content c.args.files.now) (words_view c.args.words.now) i.asking (reporting i.budget) refl
          (subst (IsRead (g.F.Files.content c.args.files.now) (words_view c.args.words.now)) (rw c.in-Ok-Asked.is at c.in-Ok-Asked.field-0-is) (rw c.in-Ok-Asked.is at c.inputs_of-read.ensures.reads));
    }

pub returns-in-Ok-Asked-clause-ends : goal.returns-in-Ok-Asked-clause-ends
returns-in-Ok-Asked-clause-ends g c =
    let i = c.in-Ok-Asked.analysis in
    let reads = subst (IsRead (g.F.Files.content c.args.files.now) (words_view c.args.words.now)) (rw c.in-Ok-Asked.is at c.in-Ok-Asked.field-0-is) (rw c.in-Ok-Asked.is at c.inputs_of-read.ensures.reads) in
    reported i.asking.schema i.asking.question i.asking.policies i.asking.against i.budget reads c.report.ensures.reports

pub returns-in-Ok-Replayed-clause-ends : goal.returns-in-Ok-Replayed-clause-ends
returns-in-Ok-Replayed-clause-ends g c =
    let x = c.in-Ok-Replayed.scene in
    replay-ends _ _ x.schema x.policies x.world c.replay.result
    (subst (IsRead (g.F.Files.content c.args.files.now) (words_view c.args.words.now)) (rw c.in-Ok-Replayed.is at c.in-Ok-Replayed.field-0-is) (rw c.in-Ok-Replayed.is at c.inputs_of-read.ensures.reads))
    c.replay.ensures.replays c.without_logs-in-Ok-Replayed.ensures.code c.without_logs-in-Ok-Replayed.ensures.spent

pub returns-in-Err-Told-clause-ends : goal.returns-in-Err-Told-clause-ends
returns-in-Err-Told-clause-ends g c =
    let failed = FailsAt g.F.Files c.args.files.now c.inputs_of-read.new.files in
    let fails = FailsWith (IsRefusal (g.F.Files.content c.args.files.now) (words_view c.args.words.now) failed) in
    refusal-ends _ _ _ c.refuse.result
    (subst fails (rw c.in-Err-Told.is at c.in-Err-Told.field-0-is) (rw c.in-Err-Told.is at c.inputs_of-read.ensures.fails))
    c.refuse.ensures.refuses c.without_logs-in-Err-Told.ensures.code c.without_logs-in-Err-Told.ensures.spent

pub returns-in-Err-Told-clause-read_told : goal.returns-in-Err-Told-clause-read_told
returns-in-Err-Told-clause-read_told g c = λ up.
    unread-must c.in-Err-Told.refusal _ _ _ c.refuse.result _ (subst IsReadFault (rw c.in-Err-Told.is at c.in-Err-Told.field-0-is) ((rw c.in-Err-Told.is at c.inputs_of-read.ensures.told) up))
    c.refuse.ensures.refuses c.without_logs-in-Err-Told.ensures.code

pub report_log-requires-clause-environment : goal.report_log-requires-clause-environment
report_log-requires-clause-environment g c =
    (subst (IsRead (g.F.Files.content c.args.files.now) (words_view c.args.words.now)) (rw c.in-Ok-Logged.is at c.in-Ok-Logged.field-0-is) (rw c.in-Ok-Logged.is at c.inputs_of-read.ensures.reads)).reached.environment

pub report_log-requires-clause-allowed : goal.report_log-requires-clause-allowed
report_log-requires-clause-allowed g c =
    let i = c.in-Ok-Logged.logging in
    may-be-asked (g.F.Files.content c.args.files.now) (words_view c.args.words.now) i.analysis.asking (logging i.analysis.budget i.environment) refl
    (subst (IsRead (g.F.Files.content c.args.files.now) (words_view c.args.words.now)) (rw c.in-Ok-Logged.is at c.in-Ok-Logged.field-0-is) (rw c.in-Ok-Logged.is at c.inputs_of-read.ensures.reads))

pub returns-in-Ok-Logged-clause-ends : goal.returns-in-Ok-Logged-clause-ends
returns-in-Ok-Logged-clause-ends g c =
    let i = c.in-Ok-Logged.logging in
    let a = i.analysis.asking in
    let reads = subst (IsRead (g.F.Files.content c.args.files.now) (words_view c.args.words.now)) (rw c.in-Ok-Logged.is at c.in-Ok-Logged.field-0-is) (rw c.in-Ok-Logged.is at c.inputs_of-read.ensures.reads) in
    let here = found-at (environments a.schema) i.environment reads.reached.environment in
    wrote_log a.schema a.question a.policies a.against i.analysis.budget i.environment here.0 reads here.1 (c.report_log.ensures.reports here.0 here.1)

pub check-requires-clause-environment : goal.check-requires-clause-environment
check-requires-clause-environment g c =
    (subst (IsRead (g.F.Files.content c.args.files.now) (words_view c.args.words.now)) (rw c.in-Ok-Checked.is at c.in-Ok-Checked.field-0-is) (rw c.in-Ok-Checked.is at c.inputs_of-read.ensures.reads)).reached.environment

pub check-requires-clause-allowed : goal.check-requires-clause-allowed
check-requires-clause-allowed g c =
    let i = c.in-Ok-Checked.claim in
    may-be-asked (g.F.Files.content c.args.files.now) (words_view c.args.words.now) i.asking (checking i.environment i.log.now) refl
    (subst (IsRead (g.F.Files.content c.args.files.now) (words_view c.args.words.now)) (rw c.in-Ok-Checked.is at c.in-Ok-Checked.field-0-is) (rw c.in-Ok-Checked.is at c.inputs_of-read.ensures.reads))

pub returns-in-Ok-Checked-clause-ends : goal.returns-in-Ok-Checked-clause-ends
returns-in-Ok-Checked-clause-ends g c =
    let faults = g.F.Files.faults in
    let i = c.in-Ok-Checked.claim in
    let reads = subst (IsRead (g.F.Files.content c.args.files.now) (words_view c.args.words.now)) (rw c.in-Ok-Checked.is at c.in-Ok-Checked.field-0-is) (rw c.in-Ok-Checked.is at c.inputs_of-read.ensures.reads) in
    let here = found-at (environments i.asking.schema) i.environment reads.reached.environment in
    claim-ends _ _ i here.0 (g.F.Files.content c.inputs_of-read.new.files) (FailsAt g.F.Files c.inputs_of-read.new.files c.check.new.files) c.check.result reads here.1 c.inputs_of-read.ensures.keeps
    (failed_before (faults c.args.files.now) (faults c.inputs_of-read.new.files) (faults c.check.new.files) (g.F.Files.failed c.check.new.files) c.inputs_of-read.ensures.later)
    (c.check.ensures.checks here.0 here.1) c.without_logs.ensures.code c.without_logs.ensures.spent

pub returns-in-Ok-Checked-clause-read_told : goal.returns-in-Ok-Checked-clause-read_told
returns-in-Ok-Checked-clause-read_told g c = λ up.
    let faults = g.F.Files.faults in
    subst (λ (n : ℕ). MustBe 20 n) (sym c.without_logs.ensures.code)
    (told_later (faults c.args.files.now) (faults c.inputs_of-read.new.files) (faults c.check.new.files)
    (stands (faults c.args.files.now) (faults c.inputs_of-read.new.files) c.inputs_of-read.ensures.later (rw c.in-Ok-Checked.is at c.inputs_of-read.ensures.told)) c.check.ensures.read_told up)

pub returns-in-Ok-Checked-clause-write_told : goal.returns-in-Ok-Checked-clause-write_told
returns-in-Ok-Checked-clause-write_told g c = λ up. c.without_logs.ensures.code ∙ c.check.ensures.write_told up

pub report_reduction-requires : goal.report_reduction-requires
report_reduction-requires g c =
    let i = c.in-Ok-Reduced.analysis in
    record {
      allowed = reducible (g.F.Files.content c.args.files.now) (words_view c.args.words.now) i.asking (reducing i.budget)
          (subst (IsRead (g.F.Files.content c.args.files.now) (words_view c.args.words.now)) (rw c.in-Ok-Reduced.is at c.in-Ok-Reduced.field-0-is) (rw c.in-Ok-Reduced.is at c.inputs_of-read.ensures.reads));
    }

pub returns-in-Ok-Reduced-clause-ends : goal.returns-in-Ok-Reduced-clause-ends
returns-in-Ok-Reduced-clause-ends g c =
    let i = c.in-Ok-Reduced.analysis in
    let reads = subst (IsRead (g.F.Files.content c.args.files.now) (words_view c.args.words.now)) (rw c.in-Ok-Reduced.is at c.in-Ok-Reduced.field-0-is) (rw c.in-Ok-Reduced.is at c.inputs_of-read.ensures.reads) in
    reduced i.asking.schema i.asking.question i.asking.policies i.asking.against i.budget reads c.report_reduction.ensures.reports

pub report_generated-requires : goal.report_generated-requires
report_generated-requires g c = record {
  size = size_within (words_view c.args.words.now) c.in-Ok-Generated.size
      (subst (IsRead (g.F.Files.content c.args.files.now) (words_view c.args.words.now)) (rw c.in-Ok-Generated.is at c.in-Ok-Generated.field-0-is) (rw c.in-Ok-Generated.is at c.inputs_of-read.ensures.reads));
}

pub returns-in-Ok-Generated-clause-ends : goal.returns-in-Ok-Generated-clause-ends
returns-in-Ok-Generated-clause-ends g c =
    generated c.in-Ok-Generated.size
    (subst (IsRead (g.F.Files.content c.args.files.now) (words_view c.args.words.now)) (rw c.in-Ok-Generated.is at c.in-Ok-Generated.field-0-is) (rw c.in-Ok-Generated.is at c.inputs_of-read.ensures.reads))
    c.report_generated.ensures.reports
