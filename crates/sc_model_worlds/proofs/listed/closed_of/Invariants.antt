use Rattle.std.proofs.Common.{◌≡◌, take}
use Rattle.sc_model_worlds.proofs.listed.closed_of.Given as goal

abbrev pub invariant-loop-place : goal.invariant-loop-place
invariant-loop-place l = l.numbers ≡ take l.place l.problem.closed
