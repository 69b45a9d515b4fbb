use Rattle.std.proofs.Common.{◌≡◌, false, take}
use Rattle.std.specs.List.{list_any}
use Rattle.sc_clauses.specs.declared.lit.Lit.{Lit}
use Rattle.sc_clauses.specs.Clauses.{is_in, negation}
use Rattle.sc_rule_instances.specs.Clauses.{said_clause}
use Rattle.sc_rule_instances.proofs.saying.is_opposed.Given as goal

abbrev pub invariant-loop-place : goal.invariant-loop-place
invariant-loop-place g l = list_any (λ (m : Lit). is_in (said_clause (g.S.Saying.posed l.saying) (g.S.Saying.said l.saying)) (negation m)) (take l.place (said_clause (g.S.Saying.posed l.saying) (g.S.Saying.said l.saying))) ≡ false
