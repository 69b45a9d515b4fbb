use Rattle.std.proofs.Common.{◌≤◌, ◌-◌, ◌+◌, ◌*◌}
use Rattle.sc_falsified.specs.Crowds.{NoneIn}
use Rattle.sc_falsified.proofs.crowds.+visit.Given as goal

abbrev pub decreases-visit : goal.decreases-visit
decreases-visit g l = 2 * (g.E.Equalities.size l.items.now - l.from) + 1

abbrev pub decreases-visit_with : goal.decreases-visit_with
decreases-visit_with g l = 2 * (g.E.Equalities.size l.items.now - l.at)

abbrev pub invariant-visit-loop-at : goal.invariant-visit-loop-at
invariant-visit-loop-at g l = record {
  from : l.from ≤ l.at;
  bound : l.at ≤ g.E.Equalities.size l.items;
  none : NoneIn (g.E.Equalities.truth l.items) (g.S.Texts.sign l.texts) (g.S.Texts.few l.texts) (g.E.Equalities.size l.items) l.signs l.chosen l.at;
}

abbrev pub decreases-visit-loop-at : goal.decreases-visit-loop-at
decreases-visit-loop-at g l = l.at - l.from
