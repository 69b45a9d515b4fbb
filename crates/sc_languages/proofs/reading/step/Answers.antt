use Rattle.std.proofs.Common.{◌∙◌, ◌++◌, sym, ap, append-nil}
use Rattle.sc_languages.proofs.StepLaws.{step_none}
use Rattle.sc_languages.proofs.reading.step.Goals as goal

pub returns-in_default : goal.returns-in_default
returns-in_default c =
    sym (append-nil _) ∙ ap (λ marks. c.loop-item.next.items ++ marks) (sym (step_none _ _ _ _ _ c.in_default.ensures.cases)) ∙ c.loop-item.invariant
