use Rattle.std.proofs.Common.{drop}
use Rattle.sc_checker.specs.Progress.{Progress, IsChecked, AfterSteps}
use Rattle.sc_checker.proofs.checking.take_steps.Given as goal

-- what the rest of the steps leave is what all of them leave
abbrev pub invariant-loop-step : goal.invariant-loop-step
invariant-loop-step g l = record {
  checked : IsChecked l.problem l.checker;
  rest : (end : Progress) → AfterSteps (g.T.Theory.has_instance l.rules l.problem) (g.T.Theory.clause_of l.rules l.problem) l.checker (drop l.step-index l.steps) end
      → AfterSteps (g.T.Theory.has_instance l.rules l.problem) (g.T.Theory.clause_of l.rules l.problem) l.initial.checker l.steps end;
}
