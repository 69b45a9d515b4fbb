use Rattle.std.proofs.Common.{ℕ, arith}
use Rattle.sc_rule_instances.specs.declared.rule.EntityRule.TheVariants.{En7}
use Rattle.th_entities.specs.Free.{IsFree}
use Rattle.th_entities.proofs.FreeLaws.{first_none, first_more, first_all}
use Rattle.th_entities.proofs.PastLaws.{past7s}
use Rattle.th_entities.proofs.finding.seventh_rule.Goals as goal

pub loop-n-init : goal.loop-n-init
loop-n-init c = first_none (λ n. (x : ℕ) → IsFree c.args.problem.now c.args.m.now (En7 n x))

pub loop-n-preserved : goal.loop-n-preserved
loop-n-preserved c = first_more (λ n. (x : ℕ) → IsFree c.args.problem.now c.args.m.now (En7 n x)) _ c.in_default.ensures.none c.loop-n.invariant

pub returns-clause-none : goal.returns-clause-none
returns-clause-none c = first_all (λ n. (x : ℕ) → IsFree c.args.problem.now c.args.m.now (En7 n x)) c.args.problem.now _ (omega (arith, c.closed_count-n-end.ensures.value, c.loop-n-test.false)) (λ n gone x. past7s c.args.problem.now c.args.m.now n x gone) c.loop-n.invariant
