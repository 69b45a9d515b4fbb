use Rattle.sc_falsified.specs.Colours.{AreColoured}
use Rattle.sc_falsified.proofs.crowds.room.Given as goal

abbrev pub invariant-loop-item : goal.invariant-loop-item
invariant-loop-item g l = AreColoured (g.E.Equalities.truth l.items) l.chosen l.from l.item l.count l.colours.items
