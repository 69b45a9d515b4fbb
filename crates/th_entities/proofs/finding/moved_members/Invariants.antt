use Rattle.std.proofs.Common.{ℕ, length}
use Rattle.sc_rule_instances.specs.declared.rule.EntityRule.TheVariants.{En2}
use Rattle.th_entities.specs.Free.{IsFree, IsMovedFree}
use Rattle.th_entities.proofs.LeftLaws.{IsLeft}
use Rattle.th_entities.proofs.finding.moved_members.Given as goal

abbrev pub invariant-loop-next : goal.invariant-loop-next
invariant-loop-next l = IsLeft (IsMovedFree l.problem l.m l.s l.z) ((x : ℕ) → IsFree l.problem l.m (En2 x l.s l.z)) l.rest

abbrev pub decreases-loop-next : goal.decreases-loop-next
decreases-loop-next l = length l.rest
