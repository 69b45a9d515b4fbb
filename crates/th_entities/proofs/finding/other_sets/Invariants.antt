use Rattle.std.proofs.Common.{ℕ}
use Rattle.sc_rule_instances.specs.declared.rule.EntityRule.TheVariants.{En2}
use Rattle.th_entities.specs.Free.{AreFirst, IsFree}
use Rattle.th_entities.proofs.finding.other_sets.Given as goal

abbrev pub invariant-loop-n : goal.invariant-loop-n
invariant-loop-n l = AreFirst (λ n. (x : ℕ) → IsFree l.problem l.m (En2 x l.s n)) l.n
