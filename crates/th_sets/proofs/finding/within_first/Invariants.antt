use Rattle.std.proofs.Common.{ℕ}
use Rattle.sc_rule_instances.specs.declared.rule.SetRule.TheVariants.{Se9}
use Rattle.th_sets.specs.Free.{AreFirstFree}
use Rattle.th_sets.proofs.finding.within_first.Given as goal

abbrev pub invariant-loop-index : goal.invariant-loop-index
invariant-loop-index l = AreFirstFree l.problem l.m (λ (i : ℕ). Se9 l.s l.t i) l.index
