use Rattle.sc_falsified.specs.Paths.{NoEnd}
use Rattle.sc_falsified.proofs.paths.end.Given as goal

abbrev pub invariant-loop-c : goal.invariant-loop-c
invariant-loop-c g l = NoEnd (g.P.Paths.second l.paths) (g.P.Paths.third l.paths) l.c l.a l.b
