use Rattle.sc_reduction.specs.Marked.{trial_of}
use Rattle.sc_reduction.proofs.SearchLaws.{SoFar}
use Rattle.sc_reduction.proofs.searching.search.Given as goal

abbrev pub invariant-loop-place : goal.invariant-loop-place
invariant-loop-place l = SoFar (trial_of l.task l.left l.right) l.place l.found
