use Rattle.std.proofs.Common.{◌≤◌}
use Rattle.sc_falsified.specs.Crowds.{NoneAfter}
use Rattle.sc_falsified.proofs.crowds.crowded.Given as goal

abbrev pub invariant-loop-at : goal.invariant-loop-at
invariant-loop-at g l = record {
  bound : l.at ≤ g.E.Equalities.size l.items;
  none : NoneAfter (g.E.Equalities.truth l.items) (g.S.Texts.sign l.texts) (g.S.Texts.few l.texts) (g.E.Equalities.size l.items) (g.S.Texts.patterns l.texts) l.at;
}

abbrev pub decreases-loop-at : goal.decreases-loop-at
decreases-loop-at g l = l.at
