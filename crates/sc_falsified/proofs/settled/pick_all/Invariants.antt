use Rattle.sc_falsified.specs.Settled.{IsPicked}
use Rattle.sc_falsified.proofs.settled.pick_all.Given as goal

abbrev pub invariant-loop-item : goal.invariant-loop-item
invariant-loop-item g l =
    IsPicked (g.E.Equalities.truth l.items) (g.S.Texts.sign l.texts) (g.E.Equalities.size l.items) (g.S.Texts.patterns l.texts) l.item l.signs l.picked.items
