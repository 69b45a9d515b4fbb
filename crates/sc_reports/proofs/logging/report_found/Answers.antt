use Rattle.std.proofs.Common.{◌∙◌, subst}
use Rattle.sc_reports.specs.Analyses.{IsAnswer, IsFound, asked_in}
use Rattle.sc_reports.proofs.LogLaws.{log-put}
use Rattle.sc_reports.proofs.logging.report_found.Goals as goal

pub returns-in-Holds-clause-reports : goal.returns-in-Holds-clause-reports
returns-in-Holds-clause-reports g c =
    let q = asked_in c.args.inputs.now in
    let env = c.args.env.now in
    log-put q env c.in-Holds.log _ _ _ c.put_log-outcome.result _ _
    (record { refuted = subst (IsFound q env) c.in-Holds.is c.requires.found; always = subst (IsAnswer q env) c.in-Holds.is c.requires.answer })
    c.put_log-outcome.ensures.puts (c.without_logs.ensures.code ∙ c.log_status.ensures) c.without_logs.ensures.spent
