use Rattle.std.proofs.Common.{◌≡◌, false, take}
use Rattle.std.specs.List.{list_any}
use Rattle.sc_clauses.specs.declared.lit.Lit.{Lit}
use Rattle.sc_clauses.specs.Clauses.{is_in, negation}
use Rattle.th_defs.specs.Items.{clause_at}
use Rattle.th_defs.proofs.clauses.is_tautology.Given as goal

abbrev pub invariant-loop-place : goal.invariant-loop-place
invariant-loop-place l = list_any (λ (m : Lit). is_in (clause_at l.problem l.item l.clause) (negation m)) (take l.place (clause_at l.problem l.item l.clause)) ≡ false
