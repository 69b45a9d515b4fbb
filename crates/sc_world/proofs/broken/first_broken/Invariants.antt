use Rattle.sc_world.proofs.BrokenLaws.{IsSoFar}
use Rattle.sc_world.proofs.broken.first_broken.Given as goal

abbrev pub invariant-loop-uid : goal.invariant-loop-uid
invariant-loop-uid l = record {
  goes_on : (goal.iterator-loop-uid).can_next l.uid-iterator;
  ends : (goal.iterator-loop-uid).is_finite l.uid-iterator;
  so_far : IsSoFar l.s l.store l.uid-iterator;
}
