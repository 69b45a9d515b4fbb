use Rattle.std.proofs.Common.{◌≡◌, ◌<◌, ℕ, length, get_or, None}
use Rattle.sc_falsified.proofs.paths.reach.Given as goal

abbrev pub invariant-loop-c : goal.invariant-loop-c
invariant-loop-c g l = record {
  sized : length l.reach.items ≡ l.c;
  at : (c : ℕ) → c < l.c → get_or l.reach.items c None ≡ g.P.Paths.second l.paths l.b c;
}
