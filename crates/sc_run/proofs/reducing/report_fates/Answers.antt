use Rattle.std.proofs.Common.{◌∙◌, ap, refl}
use Rattle.sc_reduction.specs.Lines.{status_of}
use Rattle.sc_run.specs.Reduces.{code_after, unreduced}
use Rattle.sc_run.proofs.ReductionLaws.{reduction-told}
use Rattle.sc_run.proofs.reducing.report_fates.Goals as goal

pub returns-in-Ok-clause-reports : goal.returns-in-Ok-clause-reports
returns-in-Ok-clause-reports g c = λ x is lines.
    reduction-told x c.args.fates c.args.lines.now _ _ _ c.put_lines-outcome.result _ c.code_of-whole.result _ is lines (c.code_of-whole.ensures ∙ ap status_of c.as_slice.ensures) c.code_after.ensures c.in-Ok.ensures
    c.put_lines-outcome.ensures.puts

pub returns-in-Ok-clause-told : goal.returns-in-Ok-clause-told
returns-in-Ok-clause-told g c = λ up. c.code_after.ensures ∙ ap (code_after c.code_of-whole.result) (c.put_lines-outcome.ensures.told up)

pub returns-in-Err-clause-reports : goal.returns-in-Err-clause-reports
returns-in-Err-clause-reports g c = λ x is lines. unreduced c.without_logs.ensures.code refl c.without_logs.ensures.spent
