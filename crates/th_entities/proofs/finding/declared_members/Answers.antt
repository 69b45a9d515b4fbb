use Rattle.std.proofs.Common.{arith}
use Rattle.sc_rule_instances.specs.declared.rule.EntityRule.TheVariants.{En7}
use Rattle.th_entities.specs.Free.{IsFree}
use Rattle.th_entities.proofs.FreeLaws.{first_none, first_more, first_all}
use Rattle.th_entities.proofs.PastLaws.{past7x}
use Rattle.th_entities.proofs.finding.declared_members.Goals as goal

pub loop-n-init : goal.loop-n-init
loop-n-init c = first_none (λ n. IsFree c.args.problem.now c.args.m.now (En7 c.args.s n))

pub loop-n-preserved : goal.loop-n-preserved
loop-n-preserved c = first_more (λ n. IsFree c.args.problem.now c.args.m.now (En7 c.args.s n)) _ c.in_default.ensures.none c.loop-n.invariant

pub returns-clause-none : goal.returns-clause-none
returns-clause-none c = first_all (λ n. IsFree c.args.problem.now c.args.m.now (En7 c.args.s n)) c.args.problem.now _ (omega (arith, c.closed_count-n-end.ensures.value, c.loop-n-test.false)) (λ n gone. past7x c.args.problem.now c.args.m.now c.args.s n gone) c.loop-n.invariant
