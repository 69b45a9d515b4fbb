use Rattle.th_sets.proofs.FreeLaws.{free_common}
use Rattle.th_sets.proofs.finding.at_common.Goals as goal

pub returns-clause-none : goal.returns-clause-none
returns-clause-none c = free_common c.args.problem.now c.args.m.now c.args.s c.args.t c.sharing.result c.in_default.ensures.none c.sharing.ensures.none
