use Rattle.sc_falsified.specs.Chains.{NoneFrom}
use Rattle.sc_falsified.proofs.chains.from.Given as goal

abbrev pub invariant-loop-c : goal.invariant-loop-c
invariant-loop-c g l = NoneFrom (g.E.Equalities.truth l.items) (g.E.Equalities.size l.items) l.c l.a
