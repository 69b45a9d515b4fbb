use Rattle.sc_reduction.specs.Marked.{asked_by}
use Rattle.sc_reduction.proofs.PassLaws.{PassSoFar}
use Rattle.sc_reduction.proofs.passes.next_pass.Given as goal

abbrev pub invariant-loop-place : goal.invariant-loop-place
invariant-loop-place l = PassSoFar (asked_by l.task) l.fn.last.kept.items l.place l.kept.items l.before.items l.fates.items l.dropped
