use Rattle.std.proofs.Common.{arith}
use Rattle.th_entities.specs.Free.{IsChosenFree}
use Rattle.th_entities.proofs.FreeLaws.{first_none, first_more, first_all}
use Rattle.th_entities.proofs.PastLaws.{past_chosen}
use Rattle.th_entities.proofs.finding.chosen_rules.Goals as goal

pub loop-n-init : goal.loop-n-init
loop-n-init c = first_none (IsChosenFree c.args.problem.now c.args.m.now)

pub loop-n-preserved : goal.loop-n-preserved
loop-n-preserved c = first_more (IsChosenFree c.args.problem.now c.args.m.now) _ c.in_default.ensures.none c.loop-n.invariant

pub returns-clause-none : goal.returns-clause-none
returns-clause-none c = first_all (IsChosenFree c.args.problem.now c.args.m.now) c.args.problem.now _ (omega (arith, c.closed_count-n-end.ensures.value, c.loop-n-test.false)) (λ n gone. past_chosen c.args.problem.now c.args.m.now n gone) c.loop-n.invariant
