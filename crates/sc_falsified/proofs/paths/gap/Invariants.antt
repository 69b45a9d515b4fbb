use Rattle.sc_falsified.specs.Paths.{NoMiddle}
use Rattle.sc_falsified.proofs.paths.gap.Given as goal

abbrev pub invariant-loop-b : goal.invariant-loop-b
invariant-loop-b g l = NoMiddle (g.P.Paths.first l.paths) (g.P.Paths.second l.paths) (g.P.Paths.third l.paths) (g.P.Paths.starts l.paths) l.b (g.P.Paths.ends l.paths)
