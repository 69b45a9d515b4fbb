use Rattle.std.proofs.Common.{length}
use Rattle.std.specs.List.{AllByRecursion}
use Rattle.th_entities.specs.Alike.{IsAlikeFree}
use Rattle.th_entities.specs.Places.{IsPlace}
use Rattle.th_entities.proofs.LeftLaws.{IsLeft}
use Rattle.th_entities.proofs.alike.with_any.Given as goal

abbrev pub invariant-loop-next : goal.invariant-loop-next
invariant-loop-next l = AllByRecursion (IsPlace l.problem) l.rest × IsLeft (λ b. AllByRecursion (λ a. IsAlikeFree l.problem l.m l.tags a.number b.number) l.run) (AllByRecursion (λ b. AllByRecursion (λ a. IsAlikeFree l.problem l.m l.tags a.number b.number) l.run) l.others) l.rest

abbrev pub decreases-loop-next : goal.decreases-loop-next
decreases-loop-next l = length l.rest
