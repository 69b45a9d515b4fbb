use Rattle.std.proofs.Common.{length}
use Rattle.th_entities.specs.Alike.{IsAlikeFree, IsCandidateFree}
use Rattle.th_entities.proofs.LeftLaws.{IsLeft}
use Rattle.th_entities.proofs.alike.by_candidate.Given as goal

abbrev pub invariant-loop-next : goal.invariant-loop-next
invariant-loop-next l = IsLeft (IsCandidateFree l.problem l.m l.tags l.a.number l.b.number) (IsAlikeFree l.problem l.m l.tags l.a.number l.b.number) l.rest

abbrev pub decreases-loop-next : goal.decreases-loop-next
decreases-loop-next l = length l.rest
