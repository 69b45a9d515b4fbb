use Rattle.std.proofs.Common.{length}
use Rattle.th_sets.specs.Free.{IsBesideFree}
use Rattle.th_sets.proofs.NameLaws.{IsLeft}
use Rattle.th_sets.proofs.finding.beside.Given as goal

abbrev pub invariant-loop-by : goal.invariant-loop-by
invariant-loop-by l = IsLeft l.problem (IsBesideFree l.problem l.m l.x l.set) l.rest

abbrev pub decreases-loop-by : goal.decreases-loop-by
decreases-loop-by l = length l.rest
