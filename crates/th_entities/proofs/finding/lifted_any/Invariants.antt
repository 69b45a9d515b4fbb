use Rattle.std.proofs.Common.{length}
use Rattle.std.specs.List.{AllByRecursion}
use Rattle.th_entities.specs.Free.{IsLifted}
use Rattle.th_entities.specs.Memberships.{IsHeld}
use Rattle.th_entities.proofs.LeftLaws.{IsLeft}
use Rattle.th_entities.proofs.finding.lifted_any.Given as goal

abbrev pub invariant-loop-next : goal.invariant-loop-next
invariant-loop-next l = AllByRecursion (IsHeld l.problem l.m) l.rest × IsLeft (IsLifted l.problem l.m l.e l.f) (AllByRecursion (IsLifted l.problem l.m l.e l.f) l.ups) l.rest

abbrev pub decreases-loop-next : goal.decreases-loop-next
decreases-loop-next l = length l.rest
