use Rattle.std.proofs.Common.{length}
use Rattle.std.specs.List.{AllByRecursion}
use Rattle.th_entities.specs.Free.{IsUnder}
use Rattle.th_entities.specs.Memberships.{IsHeld}
use Rattle.th_entities.proofs.LeftLaws.{IsLeft}
use Rattle.th_entities.proofs.finding.lifted_through.Given as goal

abbrev pub invariant-loop-f : goal.invariant-loop-f
invariant-loop-f l = AllByRecursion (IsHeld l.problem l.m) l.rest × IsLeft (IsUnder l.problem l.m l.e l.lows) (AllByRecursion (IsUnder l.problem l.m l.e l.lows) l.known) l.rest

abbrev pub decreases-loop-f : goal.decreases-loop-f
decreases-loop-f l = length l.rest
