use Rattle.sc_solver.specs.OtherLaws.{equal_out, set_out, entity_out}
use Rattle.sc_solver.proofs.FoundLaws.{string_has, string_false, none_other}
use Rattle.sc_solver.proofs.others.OtherRulesTheory.violated.Goals as goal

pub returns-in-Some-clause-accepted : goal.returns-in-Some-clause-accepted
returns-in-Some-clause-accepted c =
    (equal_out c.args.problem.now c.in-Some.instance c.args.m.now (rw c.in-Some.is at c.in_ok-instance.ensures.accepted)
    (rw c.in-Some.is at c.in_ok-instance.ensures.falsified)).0

pub returns-in-Some-clause-falsified : goal.returns-in-Some-clause-falsified
returns-in-Some-clause-falsified c =
    (equal_out c.args.problem.now c.in-Some.instance c.args.m.now (rw c.in-Some.is at c.in_ok-instance.ensures.accepted)
    (rw c.in-Some.is at c.in_ok-instance.ensures.falsified)).1

pub returns-in-Some-2-clause-accepted : goal.returns-in-Some-2-clause-accepted
returns-in-Some-2-clause-accepted c =
    (set_out c.args.problem.now c.in-Some-2.instance c.args.m.now (rw c.in-Some-2.is at c.in_ok-instance-2.ensures.accepted)
    (rw c.in-Some-2.is at c.in_ok-instance-2.ensures.falsified)).0

pub returns-in-Some-2-clause-falsified : goal.returns-in-Some-2-clause-falsified
returns-in-Some-2-clause-falsified c =
    (set_out c.args.problem.now c.in-Some-2.instance c.args.m.now (rw c.in-Some-2.is at c.in_ok-instance-2.ensures.accepted)
    (rw c.in-Some-2.is at c.in_ok-instance-2.ensures.falsified)).1

pub returns-in-Some-3-clause-accepted : goal.returns-in-Some-3-clause-accepted
returns-in-Some-3-clause-accepted c =
    (entity_out c.args.problem.now c.in-Some-3.instance c.args.m.now (rw c.in-Some-3.is at c.in_ok-instance-3.ensures.accepted)
    (rw c.in-Some-3.is at c.in_ok-instance-3.ensures.falsified)).0

pub returns-in-Some-3-clause-falsified : goal.returns-in-Some-3-clause-falsified
returns-in-Some-3-clause-falsified c =
    (entity_out c.args.problem.now c.in-Some-3.instance c.args.m.now (rw c.in-Some-3.is at c.in_ok-instance-3.ensures.accepted)
    (rw c.in-Some-3.is at c.in_ok-instance-3.ensures.falsified)).1

pub returns-clause-accepted : goal.returns-clause-accepted
returns-clause-accepted c = string_has c.args.problem.now c.args.m.now c.violated-4.result c.violated-4.ensures.accepted c.violated-4.ensures.falsified

pub returns-clause-falsified : goal.returns-clause-falsified
returns-clause-falsified c = string_false c.args.problem.now c.args.m.now c.violated-4.result c.violated-4.ensures.accepted c.violated-4.ensures.falsified

pub returns-clause-none : goal.returns-clause-none
returns-clause-none c =
    none_other c.args.problem.now c.args.m.now c.violated-4.result (c.in_ok-instance.ensures.none c.in_default.is) (c.in_ok-instance-2.ensures.none c.in_default-2.is)
    (c.in_ok-instance-3.ensures.none c.in_default-3.is) c.violated-4.ensures.none
