use Rattle.sc_model_consistency.proofs.PlaceLaws.{AreFree}
use Rattle.sc_model_consistency.proofs.places.are_places_small.Given as goal

abbrev pub invariant-loop-place : goal.invariant-loop-place
invariant-loop-place l = AreFree l.problem l.place
