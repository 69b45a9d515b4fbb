use Rattle.std.proofs.Common.{◌∙◌}
use Rattle.sc_term_definitions.proofs.MakingLaws.{shape_is}
use Rattle.sc_term_definitions.proofs.inputs.shape_at.Goals as goal

pub returns : goal.returns
returns c = c.shape.ensures ∙ shape_is _ _ _ c.row_at.ensures
