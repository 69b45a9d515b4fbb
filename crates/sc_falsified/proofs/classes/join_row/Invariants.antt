use Rattle.sc_falsified.specs.Classes.{IsJoined}
use Rattle.sc_falsified.proofs.classes.join_row.Given as goal

abbrev pub invariant-loop-j : goal.invariant-loop-j
invariant-loop-j g l = IsJoined (g.E.Equalities.truth l.items) (g.E.Equalities.size l.items) l.i l.j l.labels.items
