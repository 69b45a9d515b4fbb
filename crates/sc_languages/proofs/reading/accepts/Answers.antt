use Rattle.std.proofs.Common.{◌∙◌, sym}
use Rattle.sc_languages.proofs.StepLaws.{accepts_none}
use Rattle.sc_languages.proofs.reading.accepts.Goals as goal

pub returns-in_default : goal.returns-in_default
returns-in_default c = sym (accepts_none _ _ _ c.in_default.ensures.cases) ∙ c.loop-item.invariant
