use Rattle.sc_falsified.specs.Crowds.{IsEnough, AreNeeded}
use Rattle.sc_falsified.proofs.needs.ask_needed.Given as goal

abbrev pub invariant-loop-pattern : goal.invariant-loop-pattern
invariant-loop-pattern g l = record {
  enough : IsEnough (g.S.Texts.few l.texts) l.count l.fn.signs.items l.signs.items;
  needed : AreNeeded (g.S.Texts.few l.texts) l.count l.signs.items l.pattern;
}
