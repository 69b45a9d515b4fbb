use Rattle.std.proofs.Common.{◌∙◌, sym}
use Rattle.sc_languages.proofs.StepLaws.{lost_none}
use Rattle.sc_languages.proofs.reading.is_dead.Goals as goal

pub returns-in_default : goal.returns-in_default
returns-in_default c = sym (lost_none _ _ _ _ c.in_default.ensures.cases) ∙ c.loop-item.invariant
