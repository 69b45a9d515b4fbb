use Rattle.std.proofs.Common.{◌∙◌, ap, refl}
use Rattle.sc_reports.specs.Analyses.{asked_in}
use Rattle.sc_reports.specs.Progress.{status_after}
use Rattle.sc_reports.proofs.ReportLaws.{reported-some}
use Rattle.sc_reports.proofs.reporting.report_some.Goals as goal

pub returns-clause-reports : goal.returns-clause-reports
returns-clause-reports g c =
    reported-some (asked_in c.args.inputs.now) c.args.envs.now _ _ _ c.report_all-outcome.new.tally c.report_all-outcome.result _ _ c.requires.environments c.requires.some c.report_all-outcome.ensures.reports c.status_after.ensures refl

pub returns-clause-told : goal.returns-clause-told
returns-clause-told g c = λ up. c.status_after.ensures ∙ ap (status_after c.report_all-outcome.new.tally) (c.report_all-outcome.ensures.told up)
