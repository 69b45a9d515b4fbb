use Rattle.std.proofs.Common.{rules}
use Rattle.th_sets.specs.Free.{IsBesideFree}
use Rattle.th_sets.proofs.NameLaws.{left_sets, left_less, left_none}
use Rattle.th_sets.proofs.finding.beside.Goals as goal

pub loop-by-init : goal.loop-by-init
loop-by-init c = left_sets c.args.problem.now (IsBesideFree c.args.problem.now c.args.m.now c.args.x c.args.set) c.args.pairs.now tt (λ x s. tt) c.requires

pub loop-by-preserved : goal.loop-by-preserved
loop-by-preserved c = left_less c.args.problem.now (IsBesideFree c.args.problem.now c.args.m.now c.args.x c.args.set) c.loop-by.rest.now c.in-Some.later.now c.in-Some.by.now (search rules) c.in_default-beside_one.ensures.none c.loop-by.invariant

pub returns-clause-none : goal.returns-clause-none
returns-clause-none c = left_none c.args.problem.now (IsBesideFree c.args.problem.now c.args.m.now c.args.x c.args.set) c.loop-by.rest.now (search rules) c.loop-by.invariant
