use Rattle.std.proofs.Common.{◌≡◌, false, take}
use Rattle.std.specs.List.{list_any}
use Rattle.sc_clauses.specs.Clauses.{lit_eq}
use Rattle.sc_rule_instances.specs.Clauses.{said_clause}
use Rattle.sc_rule_instances.proofs.saying.is_among.Given as goal

abbrev pub invariant-loop-place : goal.invariant-loop-place
invariant-loop-place g l = list_any (lit_eq l.lit) (take l.place (said_clause (g.S.Saying.posed l.saying) (g.S.Saying.said l.saying))) ≡ false
