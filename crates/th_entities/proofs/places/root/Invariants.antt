use Rattle.th_entities.proofs.PlaceLaws.{IsReached}
use Rattle.th_entities.proofs.places.root.Given as goal

abbrev pub invariant-loop-part : goal.invariant-loop-part
invariant-loop-part l = IsReached l.problem.nodes l.term l.at

abbrev pub decreases-loop-part : goal.decreases-loop-part
decreases-loop-part l = l.at
