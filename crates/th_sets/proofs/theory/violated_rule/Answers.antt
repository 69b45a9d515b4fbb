use Rattle.std.proofs.lemmas.Result.{IfOk-weaker}
use Rattle.th_sets.proofs.TheoryLaws.{none_of_any}
use Rattle.th_sets.proofs.theory.violated_rule.Goals as goal

pub returns-in-None-clause-none : goal.returns-in-None-clause-none
returns-in-None-clause-none c =
    IfOk-weaker c.falsified_row.result _ _ (λ o h. none_of_any c.args.problem.now c.args.m.now _ o c.laws.ensures c.in-None.is c.in_ok-rule.ensures.none h) c.falsified_row.ensures.none
