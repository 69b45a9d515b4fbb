use Rattle.std.proofs.Common.{◌∙◌, subst, Ok, Err, arith}
use Rattle.sc_schema.specs.declared.declarations.Env.{Env}
use Rattle.sc_outside.proofs.CountLaws.{rose_before, stands, told_later}
use Rattle.sc_outside.specs.Counts.{Rose}
use Rattle.sc_reports.specs.Analyses.{asked_in}
use Rattle.sc_reports.specs.Progress.{ReportsEnv}
use Rattle.sc_reports.proofs.ReportLaws.{progress-more, progress-stops}
use Rattle.sc_reports.proofs.reporting.report_all.Goals as goal

pub returns-in-Err-clause-reports : goal.returns-in-Err-clause-reports
returns-in-Err-clause-reports g c =
    let q = asked_in c.args.inputs.now in
    let F = g.O.Sink.faults in
    let W = g.O.Sink.written in
    let step = Rose (F c.loop-env.out) (F c.report_env.new.out) in
    let here = subst (λ (x : Env). ReportsEnv q x c.loop-env.tally c.report_env.new.tally (W c.loop-env.out) (W c.report_env.new.out) step (Err c.in-Err.fault)) c.env-item.is c.in-Err.ensures.reports in
    progress-stops q c.args.envs.now c.loop-env.env-index c.env-item.result (W c.args.out.now) (W c.loop-env.out) (W c.report_env.new.out) c.loop-env.tally c.report_env.new.tally
    step (Rose (F c.args.out.now) (F c.report_env.new.out))
    (λ h. rose_before (F c.args.out.now) (F c.loop-env.out) (F c.report_env.new.out) (omega (arith, c.loop-env.invariant.calm)) h) (omega arith) c.loop-env.invariant.progress c.in-Err.fault here

pub loop-env-preserved : goal.loop-env-preserved
loop-env-preserved g c =
    let q = asked_in c.args.inputs.now in
    let F = g.O.Sink.faults in
    let W = g.O.Sink.written in
    let step = Rose (F c.loop-env.out) (F c.report_env.new.out) in
    let here = subst (λ (x : Env). ReportsEnv q x c.loop-env.tally c.report_env.new.tally (W c.loop-env.out) (W c.report_env.new.out) step (Ok tt)) c.env-item.is c.in-Ok.ensures.reports in
    record {
      progress = progress-more q c.args.envs.now c.loop-env.env-index c.env-item.result (W c.args.out.now) (W c.loop-env.out) (W c.report_env.new.out) c.loop-env.tally c.report_env.new.tally step (omega arith) c.loop-env.invariant.progress here;
      calm = c.loop-env.invariant.calm ∙ stands (F c.loop-env.out) (F c.report_env.new.out) c.in-Ok.ensures.later (λ up. absurd (let failed = c.in-Ok.ensures.told up in cc));
    }

pub returns-in-Err-clause-told : goal.returns-in-Err-clause-told
returns-in-Err-clause-told g c =
    let F = g.O.Sink.faults in
    told_later (F c.args.out.now) (F c.loop-env.out) (F c.report_env.new.out) c.loop-env.invariant.calm c.in-Err.ensures.told
