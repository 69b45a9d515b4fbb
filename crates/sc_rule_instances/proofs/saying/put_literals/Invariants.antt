use Rattle.std.proofs.Common.{◌≡◌, take}
use Rattle.sc_rule_instances.specs.Clauses.{said_clause}
use Rattle.sc_rule_instances.proofs.saying.put_literals.Given as goal

abbrev pub invariant-loop-place : goal.invariant-loop-place
invariant-loop-place g l = l.clause ≡ take l.place (said_clause (g.S.Saying.posed l.saying) (g.S.Saying.said l.saying))
