use Rattle.std.proofs.Common.{◌≡◌, take}
use Rattle.sc_model_names.proofs.numbers.closed_numbers.Given as goal

abbrev pub invariant-loop-place : goal.invariant-loop-place
invariant-loop-place l = l.numbers ≡ take l.place l.problem.closed
