use Rattle.std.proofs.Common.{List, ap, ◌∙◌}
use Rattle.sc_reduction.specs.Lines.{fate_lines}
use Rattle.sc_reduction.specs.declared.fate.Fate.{Fate}
use Rattle.sc_run.specs.Reduces.{to_reduce}
use Rattle.sc_run.proofs.reducing.report_reduction.Goals as goal

pub returns-in-Ok-lines_of-clause-reports : goal.returns-in-Ok-lines_of-clause-reports
returns-in-Ok-lines_of-clause-reports g c =
    let i = c.args.inputs.now in
    c.report_fates.ensures.reports (to_reduce i.asking.schema i.asking.policies i.budget) c.in-Ok.ensures.reduction
    (c.as_slice-in-Ok-lines_of.ensures ∙ c.in-Ok-lines_of.ensures ∙ ap (λ (fates : List Fate). fate_lines i.asking.schema i.budget fates) c.as_slice.ensures)
