use Rattle.std.proofs.Common.{◌≡◌}
use Rattle.th_defs.proofs.WholeLaws.{upto}
use Rattle.th_defs.proofs.definitions.defining.Given as goal

abbrev pub invariant-loop-place : goal.invariant-loop-place
invariant-loop-place l = l.clauses ≡ upto l.problem l.place
