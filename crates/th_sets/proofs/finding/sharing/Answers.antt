use Rattle.th_sets.proofs.ToldLaws.{sharing_all}
use Rattle.th_sets.proofs.finding.sharing.Goals as goal

pub returns-clause-none : goal.returns-clause-none
returns-clause-none c = sharing_all c.args.problem.now c.args.m.now c.args.s c.args.t c.if_falsified.result _ c.teller_count-count.ensures c.in_default.ensures.none c.if_falsified.ensures.none
