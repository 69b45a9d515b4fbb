use Rattle.std.proofs.Common.{slice_get}
use Rattle.sc_lists.proofs.ListLaws.{contains_place}
use Rattle.sc_schema.specs.Declarations.{environments}
use Rattle.sc_reports.specs.Analyses.{asked_in}
use Rattle.sc_reports.proofs.AnalysisLaws.{may-be-posed, query-served}
use Rattle.sc_reports.proofs.LogLaws.{logged-named}
use Rattle.sc_reports.proofs.logging.report_log.Goals as goal

pub analyse_env-requires : goal.analyse_env-requires
analyse_env-requires g c =
    let i = c.args.inputs.now.analysis.asking in
    let env = c.environment_at-env.result.now in
    may-be-posed c.goal_laws.ensures.posed c.goal_laws.ensures.both i.schema env c.in-Ok.query (query-served i c.in-Ok.query c.in-Ok.ensures c.requires.allowed)
    (contains_place (environments i.schema) c.args.inputs.now.environment env c.environment_at-env.ensures)

pub returns-in-Ok-analyse_env-clause-reports : goal.returns-in-Ok-analyse_env-clause-reports
returns-in-Ok-analyse_env-clause-reports g c = λ env at.
    logged-named (asked_in c.args.inputs.now.analysis) (slice_get (environments c.args.inputs.now.analysis.asking.schema) c.args.inputs.now.environment) c.environment_at-env.result.now env _ _ _ _ _
    c.environment_at-env.ensures at c.report_found.ensures.reports
