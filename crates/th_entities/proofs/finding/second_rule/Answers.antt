use Rattle.std.proofs.Common.{ℕ, arith}
use Rattle.sc_rule_instances.specs.declared.rule.EntityRule.TheVariants.{En2}
use Rattle.th_entities.specs.Free.{IsFree}
use Rattle.th_entities.proofs.FreeLaws.{first_none, first_more, first_all}
use Rattle.th_entities.proofs.PastLaws.{past2s}
use Rattle.th_entities.proofs.finding.second_rule.Goals as goal

pub loop-n-init : goal.loop-n-init
loop-n-init c = first_none (λ n. (z : ℕ) → (x : ℕ) → IsFree c.args.problem.now c.args.m.now (En2 x n z))

pub loop-n-preserved : goal.loop-n-preserved
loop-n-preserved c = first_more (λ n. (z : ℕ) → (x : ℕ) → IsFree c.args.problem.now c.args.m.now (En2 x n z)) _ c.in_default.ensures.none c.loop-n.invariant

pub returns-clause-none : goal.returns-clause-none
returns-clause-none c = first_all (λ n. (z : ℕ) → (x : ℕ) → IsFree c.args.problem.now c.args.m.now (En2 x n z)) c.args.problem.now _ (omega (arith, c.closed_count-n-end.ensures.value, c.loop-n-test.false)) (λ n gone z x. past2s c.args.problem.now c.args.m.now x n z gone) c.loop-n.invariant
