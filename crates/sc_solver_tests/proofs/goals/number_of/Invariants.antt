use Rattle.sc_solver_tests.specs.Goals.{IsGoal}
use Rattle.sc_solver_tests.proofs.goals.number_of.Given as goal

abbrev pub invariant-loop-letter : goal.invariant-loop-letter
invariant-loop-letter l = IsGoal l.ty l.terms l.last.0 × IsGoal l.ty l.terms l.last.1 × IsGoal l.ty l.terms l.last.2
