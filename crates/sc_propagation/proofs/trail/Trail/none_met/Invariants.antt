use Rattle.sc_propagation.specs.Analyses.{NoneMet}
use Rattle.sc_propagation.proofs.trail.Trail.none_met.Given as goal

abbrev pub invariant-loop-k : goal.invariant-loop-k
invariant-loop-k l = NoneMet l.self.lits.items l.met l.initial.k l.k
