use Rattle.std.proofs.Common.{◌≡◌, ◌<◌, ℕ, length, get_or, None}
use Rattle.sc_falsified.specs.Chains.{seen}
use Rattle.sc_falsified.proofs.chains.row.Given as goal

abbrev pub invariant-loop-b : goal.invariant-loop-b
invariant-loop-b g l = record {
  sized : length l.row.items ≡ l.b;
  at : (b : ℕ) → b < l.b → get_or l.row.items b None ≡ seen (g.E.Equalities.truth l.items) l.labels l.a b;
}
