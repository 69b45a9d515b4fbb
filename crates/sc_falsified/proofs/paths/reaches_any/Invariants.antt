use Rattle.sc_falsified.specs.Paths.{ReachesNone}
use Rattle.sc_falsified.proofs.paths.reaches_any.Given as goal

abbrev pub invariant-loop-c : goal.invariant-loop-c
invariant-loop-c l = ReachesNone l.reach l.c
