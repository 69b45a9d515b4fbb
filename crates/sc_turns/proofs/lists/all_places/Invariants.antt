use Rattle.sc_turns.specs.Turning.{AreAll}
use Rattle.sc_turns.proofs.lists.all_places.Given as goal

abbrev pub invariant-loop-place : goal.invariant-loop-place
invariant-loop-place l = AreAll l.place l.places.items
