use Rattle.std.proofs.Common.{◌≡◌, ◌<◌, ℕ, length, get_or, None}
use Rattle.sc_falsified.specs.Crowds.{agreed}
use Rattle.sc_falsified.proofs.crowds.meet.Given as goal

abbrev pub invariant-loop-pattern : goal.invariant-loop-pattern
invariant-loop-pattern g l = record {
  sized : length l.met.items ≡ l.pattern;
  at : (p : ℕ) → p < l.pattern → get_or l.met.items p None ≡ agreed (get_or l.signs p None) (g.S.Texts.sign l.texts l.item p);
}
