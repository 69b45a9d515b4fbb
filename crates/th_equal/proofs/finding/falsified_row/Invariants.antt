use Rattle.th_equal.specs.Free.{AreFirstFree}
use Rattle.th_equal.proofs.finding.falsified_row.Given as goal

-- no instance that the terms before name is falsified
abbrev pub invariant-loop-n : goal.invariant-loop-n
invariant-loop-n l = AreFirstFree l.problem l.m l.n
