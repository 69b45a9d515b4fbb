use Rattle.th_equal.proofs.PartLaws.{other_option}
use Rattle.th_equal.proofs.rows.held_equal.Goals as goal

pub held-requires-2-clause-option : goal.held-requires-2-clause-option
held-requires-2-clause-option c = other_option _ _ c.requires.options
