use Rattle.std.proofs.Common.{◌≡◌, false, take}
use Rattle.std.specs.List.{list_any}
use Rattle.sc_clauses.specs.Clauses.{lit_eq, negation}
use Rattle.th_defs.specs.Items.{clause_at}
use Rattle.th_defs.proofs.clauses.has_negation.Given as goal

abbrev pub invariant-loop-place : goal.invariant-loop-place
invariant-loop-place l = list_any (lit_eq (negation l.literal)) (take l.place (clause_at l.problem l.item l.clause)) ≡ false
