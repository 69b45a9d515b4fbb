use Rattle.sc_rule_instances.specs.declared.rule.EntityRule.TheVariants.{En6}
use Rattle.th_entities.specs.Free.{AreFirst, IsFree}
use Rattle.th_entities.proofs.finding.sixth_rule.Given as goal

abbrev pub invariant-loop-n : goal.invariant-loop-n
invariant-loop-n l = AreFirst (λ n. IsFree l.problem l.m (En6 n)) l.n
