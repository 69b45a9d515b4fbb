use Rattle.std.proofs.Common.{◌<◌, ℕ}
use Rattle.sc_falsified.specs.Chains.{NoneFrom}
use Rattle.sc_falsified.proofs.chains.intransitive_among.Given as goal

abbrev pub invariant-loop-a : goal.invariant-loop-a
invariant-loop-a g l = (a : ℕ) → a < l.a → NoneFrom (g.E.Equalities.truth l.items) (g.E.Equalities.size l.items) (g.E.Equalities.size l.items) a
