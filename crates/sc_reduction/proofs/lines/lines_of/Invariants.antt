use Rattle.std.proofs.Common.{◌≡◌, ◌++◌, drop}
use Rattle.sc_reduction.specs.Lines.{lines_from}
use Rattle.sc_reduction.proofs.lines.lines_of.Given as goal

abbrev pub invariant-loop-place : goal.invariant-loop-place
invariant-loop-place l = l.lines ++ lines_from l.schema l.budget l.place (drop l.place l.fates) ≡ lines_from l.schema l.budget 0 l.fates
