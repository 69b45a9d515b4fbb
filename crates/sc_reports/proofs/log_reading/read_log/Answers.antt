use Rattle.std.proofs.Common.{rules, subst}
use Rattle.sc_outside.proofs.CountLaws.{rose_before}
use Rattle.sc_outside.specs.Failures.{FailsAt, FailsOn}
use Rattle.sc_outside.specs.Reads.{IsLast}
use Rattle.sc_inputs.proofs.ReadingLaws.{result_fails}
use Rattle.sc_inputs.specs.Refusals.{RefusesLog, log_limit, log_unread}
use Rattle.sc_reports.proofs.LogReadingLaws.{log-fails}
use Rattle.sc_reports.specs.LogReading.{RefusesPiece}
use Rattle.sc_reports.proofs.log_reading.read_log.Goals as goal

pub returns-in-Ok-clause-fails : goal.returns-in-Ok-clause-fails
returns-in-Ok-clause-fails g c =
    let faults = g.F.Files.faults in
    let content = g.F.Files.content c.args.files.now in
    let left = g.F.Files.left c.start.new.self in
    let later = FailsOn g.F.Files c.start.new.self c.read_all.new.files in
    let failed = FailsAt g.F.Files c.args.files.now c.read_all.new.files in
    result_fails (RefusesPiece left log_limit later) (RefusesLog content c.args.name.now failed)
    (log-fails content c.args.name.now left later failed
    (λ (h : later). record {
      rose = rose_before (faults c.args.files.now) (faults c.start.new.self) (faults c.read_all.new.files) c.in-Ok.ensures.counts.later h.0;
      last = subst (IsLast (g.F.Files.failed c.read_all.new.files)) c.in-Ok.ensures.starts_at h.1;
    }) c.in-Ok.ensures.starts)
    c.read_all.result c.read_all.ensures.fails

pub returns-in-Err-Failed-clause-fails : goal.returns-in-Err-Failed-clause-fails
returns-in-Err-Failed-clause-fails g c = log_unread (record { rose = search rules; last = search rules })
