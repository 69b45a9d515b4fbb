use Rattle.std.proofs.Common.{◌≡◌, ◌<◌, ℕ, length, get_or, None}
use Rattle.sc_falsified.proofs.crowds.row.Given as goal

abbrev pub invariant-loop-pattern : goal.invariant-loop-pattern
invariant-loop-pattern g l = record {
  sized : length l.row.items ≡ l.pattern;
  at : (p : ℕ) → p < l.pattern → get_or l.row.items p None ≡ g.S.Texts.sign l.texts l.item p;
}
