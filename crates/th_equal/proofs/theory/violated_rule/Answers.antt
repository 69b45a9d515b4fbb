use Rattle.th_equal.proofs.TheoryLaws.{none_of_any}
use Rattle.th_equal.proofs.theory.violated_rule.Goals as goal

pub returns-in-None-clause-none : goal.returns-in-None-clause-none
returns-in-None-clause-none c = none_of_any c.args.problem.now c.args.m.now _ c.falsified_row.result c.laws.ensures c.in-None.is c.in_ok-rule.ensures.none c.falsified_row.ensures.none
