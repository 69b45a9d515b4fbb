use Rattle.sc_propagation.proofs.GivingLaws.{of_unit}
use Rattle.sc_propagation.proofs.trail.Trail.gives.Goals as goal

pub returns-in-Unit : goal.returns-in-Unit
returns-in-Unit c = λ _. of_unit _ _ _ (c.are_in_cells.ensures c.if-not-are_in_cells.false) c.in-Unit.ensures
