use Rattle.sc_solver.specs.RuleLaws.{definition_out}
use Rattle.sc_solver.proofs.FoundLaws.{other_has, none_rule}
use Rattle.sc_solver.proofs.rules.RulesTheory.violated.Goals as goal

pub returns-in-Some-clause-accepted : goal.returns-in-Some-clause-accepted
returns-in-Some-clause-accepted c =
    (definition_out c.args.problem.now c.in-Some.instance c.args.m.now (rw c.in-Some.is at c.in_ok-instance.ensures.accepted) (rw c.in-Some.is at c.in_ok-instance.ensures.falsified)).0

pub returns-in-Some-clause-falsified : goal.returns-in-Some-clause-falsified
returns-in-Some-clause-falsified c =
    (definition_out c.args.problem.now c.in-Some.instance c.args.m.now (rw c.in-Some.is at c.in_ok-instance.ensures.accepted) (rw c.in-Some.is at c.in_ok-instance.ensures.falsified)).1

pub returns-clause-accepted : goal.returns-clause-accepted
returns-clause-accepted c = other_has c.args.problem.now c.args.m.now c.violated-2.result c.violated-2.ensures.accepted

pub returns-clause-none : goal.returns-clause-none
returns-clause-none c = none_rule c.args.problem.now c.args.m.now c.violated-2.result (c.in_ok-instance.ensures.none c.in_default.is) c.violated-2.ensures.none
