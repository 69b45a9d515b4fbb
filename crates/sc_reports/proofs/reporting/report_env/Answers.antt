use Rattle.std.proofs.Common.{◌∙◌}
use Rattle.sc_reports.specs.Analyses.{asked_in, asked_of}
use Rattle.sc_reports.proofs.AnalysisLaws.{may-be-posed, query-served, query-answered, answer-printable}
use Rattle.sc_reports.proofs.ReportLaws.{env-reported}
use Rattle.sc_reports.proofs.reporting.report_env.Goals as goal

pub analyse_env-requires : goal.analyse_env-requires
analyse_env-requires g c =
    let i = c.args.inputs.now.asking in
    may-be-posed c.goal_laws.ensures.posed c.goal_laws.ensures.both i.schema c.args.env.now c.args.query.now (query-served i c.args.query.now c.requires.asked c.requires.allowed) c.requires.environment

pub line_of-requires : goal.line_of-requires
line_of-requires g c = answer-printable (asked_of c.args.inputs.now.asking.schema c.args.query.now c.args.inputs.now.budget) c.args.env.now c.in-Ok.answer c.in-Ok.ensures.answer

pub returns-clause-reports : goal.returns-clause-reports
returns-clause-reports g c =
    env-reported (asked_in c.args.inputs.now) c.args.env.now _ 0 _ _ _ _ _ _ _ (c.deref.ensures.value ∙ c.in-Ok-line_of.ensures)
    (query-answered c.args.inputs.now.asking c.args.inputs.now.budget c.args.query.now c.args.env.now _ c.requires.asked c.in-Ok.ensures.answer) c.put_answer.ensures.puts
