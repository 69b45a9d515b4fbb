use Rattle.th_entities.proofs.LiftedLaws.{lifted_free}
use Rattle.th_entities.proofs.finding.lifted.Goals as goal

pub returns-then-is_lifted-clause-none : goal.returns-then-is_lifted-clause-none
returns-then-is_lifted-clause-none c = lifted_free c.args.problem.now c.args.m.now c.args.e c.args.f c.args.lows.now c.args.up _ c.requires.lows c.requires.up c.is_lifted.ensures c.if-is_lifted.true
