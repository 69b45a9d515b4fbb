use Rattle.std.proofs.Common.{◌≡◌, take}
use Rattle.th_defs.specs.Items.{clause_at}
use Rattle.th_defs.proofs.clauses.fill.Given as goal

abbrev pub invariant-loop-place : goal.invariant-loop-place
invariant-loop-place l = l.literals.items ≡ take l.place (clause_at l.problem l.item l.clause)
