use Rattle.std.proofs.Common.{length}
use Rattle.std.specs.List.{AllByRecursion}
use Rattle.th_entities.specs.Places.{IsPlace}
use Rattle.th_entities.proofs.AlikeLaws.{AreAllFree, IsFreeAmong}
use Rattle.th_entities.proofs.LeftLaws.{IsLeft}
use Rattle.th_entities.proofs.alike.unlike_places.Given as goal

abbrev pub invariant-loop-r : goal.invariant-loop-r
invariant-loop-r l = AllByRecursion (IsPlace l.problem) l.rest × IsLeft (IsFreeAmong l.problem l.m l.places) (AreAllFree l.problem l.m) l.rest

abbrev pub decreases-loop-r : goal.decreases-loop-r
decreases-loop-r l = length l.rest
