use Rattle.th_sets.proofs.ToldLaws.{within_all}
use Rattle.th_sets.proofs.finding.within.Goals as goal

pub returns-clause-none : goal.returns-clause-none
returns-clause-none c = within_all c.args.problem.now c.args.m.now c.args.s c.args.t c.if_falsified.result _ c.member_count-count.ensures c.in_default.ensures.none c.if_falsified.ensures.none
