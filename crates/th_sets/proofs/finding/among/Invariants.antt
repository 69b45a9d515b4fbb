use Rattle.std.proofs.Common.{length}
use Rattle.th_sets.specs.Free.{IsNamedFree}
use Rattle.th_sets.proofs.NameLaws.{IsLeft}
use Rattle.th_sets.proofs.finding.among.Given as goal

abbrev pub invariant-loop-by : goal.invariant-loop-by
invariant-loop-by l = IsLeft l.problem (IsNamedFree l.problem l.m) l.rest

abbrev pub decreases-loop-by : goal.decreases-loop-by
decreases-loop-by l = length l.rest
