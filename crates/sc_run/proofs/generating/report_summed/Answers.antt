use Rattle.std.proofs.Common.{Err, ap, ◌∙◌}
use Rattle.sc_outside.proofs.CountLaws.{stands, told_later}
use Rattle.sc_outside.specs.Counts.{Rose}
use Rattle.sc_reports.specs.Analyses.{asked_in}
use Rattle.sc_run.specs.Generates.{unsummed}
use Rattle.sc_run.proofs.GenerationLaws.{after_summary, cut_summary, not_failed}
use Rattle.sc_run.proofs.generating.report_summed.Goals as goal

pub returns-in-Ok-clause-reports : goal.returns-in-Ok-clause-reports
returns-in-Ok-clause-reports g c = λ size is generated.
    let written = g.O.Sink.written in
    let faults = g.O.Sink.faults in
    let still = stands (faults c.args.out.now) (faults c.write.new.self) c.write.ensures.counts.later (λ up. not_failed c.in-Ok.is (c.write.ensures.counts.told up)) in
    after_summary size (asked_in c.args.analysis.now) (written c.args.out.now) (written c.write.new.self) (written c.report.new.out) c.args.line.now (faults c.args.out.now) (faults c.write.new.self) (faults c.report.new.out) _ _ is generated
    (rw c.in-Ok.is at c.write.ensures.text) still c.report.ensures.reports

pub returns-in-Ok-clause-told : goal.returns-in-Ok-clause-told
returns-in-Ok-clause-told g c =
    let faults = g.O.Sink.faults in
    let still = stands (faults c.args.out.now) (faults c.write.new.self) c.write.ensures.counts.later (λ up. not_failed c.in-Ok.is (c.write.ensures.counts.told up)) in
    told_later (faults c.args.out.now) (faults c.write.new.self) (faults c.report.new.out) still c.report.ensures.told

pub returns-in-Err-Failed-clause-reports : goal.returns-in-Err-Failed-clause-reports
returns-in-Err-Failed-clause-reports g c = λ size is generated.
    let failed = c.in-Err-Failed.is ∙ ap Err c.in-Err-Failed.field-0-is in
    cut_summary size (g.O.Sink.written c.args.out.now) (g.O.Sink.written c.write.new.self) c.args.line.now (Rose (g.O.Sink.faults c.args.out.now) (g.O.Sink.faults c.write.new.self)) _ _ is (rw failed at c.write.ensures.text)
    (c.write.ensures.counts.rose failed) c.without_logs.ensures.code c.without_logs.ensures.spent

pub returns-in-Err-NoMemory-clause-reports : goal.returns-in-Err-NoMemory-clause-reports
returns-in-Err-NoMemory-clause-reports g c = λ size is generated.
    let none = c.in-Err-NoMemory.is ∙ ap Err c.in-Err-NoMemory.field-0-is in
    unsummed c.without_logs-in-Err-NoMemory.ensures.code (rw none at c.write.ensures.text) c.without_logs-in-Err-NoMemory.ensures.spent
