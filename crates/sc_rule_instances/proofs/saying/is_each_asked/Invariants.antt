use Rattle.std.proofs.Common.{◌≡◌, true, take}
use Rattle.std.specs.List.{list_all}
use Rattle.sc_rule_instances.specs.Clauses.{is_asked, said_clause}
use Rattle.sc_rule_instances.proofs.saying.is_each_asked.Given as goal

abbrev pub invariant-loop-place : goal.invariant-loop-place
invariant-loop-place g l = list_all is_asked (take l.place (said_clause (g.S.Saying.posed l.saying) (g.S.Saying.said l.saying))) ≡ true
