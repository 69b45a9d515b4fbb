use Rattle.th_entities.proofs.MembershipLaws.{AreSoFar}
use Rattle.th_entities.proofs.memberships.true_memberships.Given as goal

abbrev pub invariant-loop-n : goal.invariant-loop-n
invariant-loop-n l = AreSoFar l.problem l.m l.known.items l.n
