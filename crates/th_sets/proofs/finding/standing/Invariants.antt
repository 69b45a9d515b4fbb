use Rattle.std.proofs.Common.{ℕ}
use Rattle.sc_rule_instances.specs.declared.rule.SetRule.TheVariants.{Se3}
use Rattle.th_sets.specs.Free.{AreFirstFree}
use Rattle.th_sets.proofs.finding.standing.Given as goal

abbrev pub invariant-loop-index : goal.invariant-loop-index
invariant-loop-index l = AreFirstFree l.problem l.m (λ (i : ℕ). Se3 l.x l.set i) l.index
