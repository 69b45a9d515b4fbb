use Rattle.std.proofs.Common.{drop, length}
use Rattle.sc_checker.specs.Progress.{IsChecked}
use Rattle.sc_checker.specs.Streams.{Checking, After}
use Rattle.sc_checker.proofs.line_checker.LineChecker.read_lines.Given as goal

-- what the rest leaves is what all bytes leave
abbrev pub invariant-loop-place : goal.invariant-loop-place
invariant-loop-place g l = record {
  checked : IsChecked l.problem l.self.progress;
  rest : (end : Checking) → After (g.T.Theory.has_instance l.rules l.problem) (g.T.Theory.clause_of l.rules l.problem) l.self (drop l.place l.bytes) end
      → After (g.T.Theory.has_instance l.rules l.problem) (g.T.Theory.clause_of l.rules l.problem) l.initial.self l.bytes end;
}

abbrev pub decreases-loop-place : goal.decreases-loop-place
decreases-loop-place g l = length (drop l.place l.bytes)
