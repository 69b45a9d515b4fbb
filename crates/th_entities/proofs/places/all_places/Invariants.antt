use Rattle.th_entities.proofs.PlaceLaws.{AreSoFar}
use Rattle.th_entities.proofs.places.all_places.Given as goal

abbrev pub invariant-loop-n : goal.invariant-loop-n
invariant-loop-n l = AreSoFar l.problem l.found.items l.n
