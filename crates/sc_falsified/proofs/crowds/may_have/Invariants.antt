use Rattle.sc_falsified.specs.Colours.{MayHave}
use Rattle.sc_falsified.proofs.crowds.may_have.Given as goal

abbrev pub invariant-loop-t : goal.invariant-loop-t
invariant-loop-t g l = MayHave (g.E.Equalities.truth l.items) l.colours l.t l.item l.colour
