use Rattle.std.proofs.Common.{rules}
use Rattle.th_sets.specs.Free.{IsNamedFree}
use Rattle.th_sets.proofs.NameLaws.{left_all, left_less, left_none}
use Rattle.th_sets.proofs.finding.among.Goals as goal

pub loop-by-init : goal.loop-by-init
loop-by-init c = left_all c.args.problem.now (IsNamedFree c.args.problem.now c.args.m.now) c.args.names.now tt c.requires.names

pub loop-by-preserved : goal.loop-by-preserved
loop-by-preserved c = left_less c.args.problem.now (IsNamedFree c.args.problem.now c.args.m.now) c.loop-by.rest.now c.in-Some.later.now c.in-Some.by.now (search rules) c.in_default-at_named.ensures.none c.loop-by.invariant

pub returns-clause-none : goal.returns-clause-none
returns-clause-none c = left_none c.args.problem.now (IsNamedFree c.args.problem.now c.args.m.now) c.loop-by.rest.now (search rules) c.loop-by.invariant
