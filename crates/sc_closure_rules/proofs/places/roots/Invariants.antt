use Rattle.sc_closure_rules.proofs.LinkingLaws.{AreReached}
use Rattle.sc_closure_rules.proofs.places.roots.Given as goal

abbrev pub invariant-loop-a : goal.invariant-loop-a
invariant-loop-a l = AreReached l.terms l.x l.y l.first l.second

abbrev pub decreases-loop-a : goal.decreases-loop-a
decreases-loop-a l = l.first
