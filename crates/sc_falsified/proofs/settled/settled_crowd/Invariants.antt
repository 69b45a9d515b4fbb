use Rattle.sc_falsified.specs.Settled.{AreRowsFree}
use Rattle.sc_falsified.proofs.settled.settled_crowd.Given as goal

abbrev pub invariant-loop-item : goal.invariant-loop-item
invariant-loop-item g l =
    AreRowsFree (g.E.Equalities.truth l.items) (g.S.Texts.sign l.texts) (g.S.Texts.few l.texts) (g.E.Equalities.size l.items) (g.S.Texts.patterns l.texts) l.item
