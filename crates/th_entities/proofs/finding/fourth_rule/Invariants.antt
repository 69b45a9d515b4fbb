use Rattle.std.proofs.Common.{ℕ, length}
use Rattle.sc_rule_instances.specs.declared.rule.EntityRule.TheVariants.{En4}
use Rattle.th_entities.specs.Free.{IsFree, IsOwnFree}
use Rattle.th_entities.proofs.LeftLaws.{IsLeft}
use Rattle.th_entities.proofs.finding.fourth_rule.Given as goal

abbrev pub invariant-loop-next : goal.invariant-loop-next
invariant-loop-next l = IsLeft (IsOwnFree l.problem l.m) ((e : ℕ) → IsFree l.problem l.m (En4 e)) l.rest

abbrev pub decreases-loop-next : goal.decreases-loop-next
decreases-loop-next l = length l.rest
