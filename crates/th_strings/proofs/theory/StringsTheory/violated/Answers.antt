use Rattle.th_strings.proofs.TheoryLaws.{written_has, written_false, none_false}
use Rattle.th_strings.proofs.theory.StringsTheory.violated.Goals as goal

pub returns-in_ok-write_string-in-Some-clause-accepted : goal.returns-in_ok-write_string-in-Some-clause-accepted
returns-in_ok-write_string-in-Some-clause-accepted c =
    written_has c.args.problem.now c.args.m.now c.in_ok-write_string-in-Some.field-0 _ c.in-Some.rule c.in_ok-write_string-in-Some.ensures c.in-Some.is c.in_ok-rule.ensures.found

pub returns-in_ok-write_string-in-Some-clause-falsified : goal.returns-in_ok-write_string-in-Some-clause-falsified
returns-in_ok-write_string-in-Some-clause-falsified c =
    written_false c.args.problem.now c.args.m.now c.in_ok-write_string-in-Some.field-0 _ c.in-Some.rule c.in_ok-write_string-in-Some.ensures c.in-Some.is c.in_ok-rule.ensures.found

pub returns-in-None-clause-none : goal.returns-in-None-clause-none
returns-in-None-clause-none c = λ e i h. none_false c.args.problem.now c.args.m.now i _ c.in-None.is c.in_ok-rule.ensures.none h
