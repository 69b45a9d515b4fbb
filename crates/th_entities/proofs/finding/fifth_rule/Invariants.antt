use Rattle.std.proofs.Common.{ℕ, length}
use Rattle.std.specs.List.{AllByRecursion}
use Rattle.sc_rule_instances.specs.declared.rule.EntityRule.TheVariants.{En5}
use Rattle.th_entities.specs.Free.{IsFree, IsThroughFree}
use Rattle.th_entities.specs.Memberships.{IsHeld}
use Rattle.th_entities.proofs.LeftLaws.{IsLeft}
use Rattle.th_entities.proofs.finding.fifth_rule.Given as goal

abbrev pub invariant-loop-e : goal.invariant-loop-e
invariant-loop-e l = AllByRecursion (IsHeld l.problem l.m) l.rest × IsLeft (IsThroughFree l.problem l.m l.known) ((u : ℕ) → (f : ℕ) → (e : ℕ) → (x : ℕ) → IsFree l.problem l.m (En5 e f x u)) l.rest

abbrev pub decreases-loop-e : goal.decreases-loop-e
decreases-loop-e l = length l.rest
