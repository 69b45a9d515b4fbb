use Rattle.th_entities.proofs.TheoryLaws.{written_has, written_false, none_false}
use Rattle.th_entities.proofs.theory.EntitiesTheory.violated.Goals as goal

pub falsified_rule-requires-clause-known : goal.falsified_rule-requires-clause-known
falsified_rule-requires-clause-known c = rw c.as_slice.ensures.value c.in_ok-known.ensures

pub falsified_rule-requires-clause-places : goal.falsified_rule-requires-clause-places
falsified_rule-requires-clause-places c = rw c.as_slice-2.ensures.value c.in_ok-places.ensures

pub returns-in-Some-clause-accepted : goal.returns-in-Some-clause-accepted
returns-in-Some-clause-accepted c = written_has c.args.problem.now c.in_ok-write_entity-in-Some.field-0 c.args.m.now _ c.in-Some.rule c.in_ok-write_entity-in-Some.ensures c.in-Some.is c.falsified_rule.ensures.found

pub returns-in-Some-clause-falsified : goal.returns-in-Some-clause-falsified
returns-in-Some-clause-falsified c = written_false c.args.problem.now c.in_ok-write_entity-in-Some.field-0 c.args.m.now _ c.in-Some.rule c.in_ok-write_entity-in-Some.ensures c.in-Some.is c.falsified_rule.ensures.found

pub returns-clause-none : goal.returns-clause-none
returns-clause-none c = λ e i h. none_false c.args.problem.now i c.args.m.now _ c.in-None.is c.falsified_rule.ensures.none h
