use Rattle.std.proofs.Common.{sym}
use Rattle.th_equal.proofs.TheoryLaws.{unnamed}
use Rattle.th_equal.proofs.theory.EqualTheory.clause.Goals as goal

pub returns-in_default : goal.returns-in_default
returns-in_default c = absurd (unnamed c.args.problem.now c.args.instance.now (sym c.in_default.ensures) c.requires)
