use Rattle.std.proofs.Common.{◌∙◌}
use Rattle.sc_term_definitions.proofs.MakingLaws.{count_is}
use Rattle.sc_term_definitions.proofs.inputs.input_count.Goals as goal

pub returns : goal.returns
returns c = c.count.ensures ∙ count_is _ _ _ c.row_at.ensures
