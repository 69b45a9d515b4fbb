use Rattle.th_sets.proofs.FreeLaws.{free_subset}
use Rattle.th_sets.proofs.finding.at_subset.Goals as goal

pub returns-clause-none : goal.returns-clause-none
returns-clause-none c = free_subset c.args.problem.now c.args.m.now c.args.s c.args.t c.within.result c.in_default.ensures.none c.within.ensures.none
