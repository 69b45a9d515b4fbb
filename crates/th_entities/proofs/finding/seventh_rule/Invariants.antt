use Rattle.std.proofs.Common.{ℕ}
use Rattle.sc_rule_instances.specs.declared.rule.EntityRule.TheVariants.{En7}
use Rattle.th_entities.specs.Free.{AreFirst, IsFree}
use Rattle.th_entities.proofs.finding.seventh_rule.Given as goal

abbrev pub invariant-loop-n : goal.invariant-loop-n
invariant-loop-n l = AreFirst (λ n. (x : ℕ) → IsFree l.problem l.m (En7 n x)) l.n
