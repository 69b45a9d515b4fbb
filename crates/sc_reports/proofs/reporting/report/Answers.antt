use Rattle.std.proofs.Common.{sym, ◌∙◌}
use Rattle.std.proofs.lemmas.Bool.Decides.{Decides-eqb}
use Rattle.std.proofs.lemmas.List.{nil_from_length}
use Rattle.sc_reports.specs.Analyses.{asked_in}
use Rattle.sc_reports.proofs.ReportLaws.{reported-none, reported-nothing}
use Rattle.sc_reports.proofs.reporting.report.Goals as goal

pub returns-then-is_empty-clause-reports : goal.returns-then-is_empty-clause-reports
returns-then-is_empty-clause-reports g c =
    let none = nil_from_length c.environments-envs.result.now ((Decides-eqb _ 0).0 (sym c.is_empty.ensures ∙ c.if-is_empty.true)) in
    reported-none (asked_in c.args.inputs.now) _ _ _ c.report_none.result _ _ (sym c.environments-envs.ensures ∙ none) c.report_none.ensures.reports c.without_logs.ensures.code c.without_logs.ensures.spent

pub returns-in-Err-clause-reports : goal.returns-in-Err-clause-reports
returns-in-Err-clause-reports g c = reported-nothing (asked_in c.args.inputs.now) _ _ _ _ c.without_logs-in-Err.ensures.code c.without_logs-in-Err.ensures.spent

pub returns-then-is_empty-clause-told : goal.returns-then-is_empty-clause-told
returns-then-is_empty-clause-told g c = λ up. c.without_logs.ensures.code ∙ c.report_none.ensures.told up
