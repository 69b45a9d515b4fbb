use Rattle.std.proofs.Common.{◌∙◌, refl}
use Rattle.sc_run.specs.Generates.{unsummed}
use Rattle.sc_run.proofs.generating.report_generated.Goals as goal

pub returns-in-Ok-generated_analysis-clause-reports : goal.returns-in-Ok-generated_analysis-clause-reports
returns-in-Ok-generated_analysis-clause-reports g c =
    c.report_summed.ensures.reports c.args.size (c.deref.ensures.value ∙ c.in-Ok.ensures) c.in-Ok-generated_analysis.ensures.asked

pub returns-clause-reports : goal.returns-clause-reports
returns-clause-reports g c = unsummed c.without_logs-in-Err.ensures.code refl c.without_logs-in-Err.ensures.spent

pub returns-in_default-clause-reports : goal.returns-in_default-clause-reports
returns-in_default-clause-reports g c = unsummed c.without_logs.ensures.code refl c.without_logs.ensures.spent
