use Rattle.std.proofs.Common.{◌∙◌}
use Rattle.sc_reports.specs.Analyses.{asked_in}
use Rattle.sc_reports.proofs.LogLaws.{other-put}
use Rattle.sc_reports.proofs.logging.report_other.Goals as goal

pub returns-clause-reports : goal.returns-clause-reports
returns-clause-reports g c =
    other-put (asked_in c.args.inputs.now) c.args.env.now c.args.answer 0 c.new-tally.result c.put_answer-outcome.new.tally _ _ c.deref.result.now _ c.put_answer-outcome.result _
    c.new-tally.ensures (c.deref.ensures.value ∙ c.in-Ok.ensures) c.requires.answer c.requires.not_shown c.put_answer-outcome.ensures.puts c.status_after.ensures
