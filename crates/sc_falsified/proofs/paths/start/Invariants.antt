use Rattle.sc_falsified.specs.Paths.{NoStart}
use Rattle.sc_falsified.proofs.paths.start.Given as goal

abbrev pub invariant-loop-a : goal.invariant-loop-a
invariant-loop-a g l = NoStart (g.P.Paths.first l.paths) (g.P.Paths.second l.paths) (g.P.Paths.third l.paths) l.a (g.P.Paths.ends l.paths) l.b
