use Rattle.std.proofs.Common.{length}
use Rattle.std.specs.List.{AllByRecursion}
use Rattle.th_entities.specs.Alike.{IsFreeBeside}
use Rattle.th_entities.specs.Places.{IsPlace}
use Rattle.th_entities.proofs.LeftLaws.{IsLeft}
use Rattle.th_entities.proofs.alike.with_roots.Given as goal

abbrev pub invariant-loop-q : goal.invariant-loop-q
invariant-loop-q l = AllByRecursion (IsPlace l.problem) l.rest × IsLeft (IsFreeBeside l.problem l.m l.run) (AllByRecursion (IsFreeBeside l.problem l.m l.run) l.places) l.rest

abbrev pub decreases-loop-q : goal.decreases-loop-q
decreases-loop-q l = length l.rest
