use Rattle.sc_falsified.specs.Classes.{IsJoined}
use Rattle.sc_falsified.proofs.classes.labels.Given as goal

abbrev pub invariant-loop-i : goal.invariant-loop-i
invariant-loop-i g l = IsJoined (g.E.Equalities.truth l.items) (g.E.Equalities.size l.items) l.i 0 l.labels.items
