use Rattle.sc_falsified.specs.Chains.{NoneBetween}
use Rattle.sc_falsified.proofs.chains.between.Given as goal

abbrev pub invariant-loop-b : goal.invariant-loop-b
invariant-loop-b g l = NoneBetween (g.E.Equalities.truth l.items) l.b l.a l.c
