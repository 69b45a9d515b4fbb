use Rattle.std.proofs.Common.{sym}
use Rattle.th_equal.proofs.TheoryLaws.{refused}
use Rattle.th_equal.proofs.theory.EqualTheory.accepts.Goals as goal

pub returns-in_default-clause-decides : goal.returns-in_default-clause-decides
returns-in_default-clause-decides c = refused c.args.problem.now c.args.instance.now (sym c.in_default.ensures)
