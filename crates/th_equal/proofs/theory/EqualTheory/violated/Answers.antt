use Rattle.std.proofs.Common.{rules}
use Rattle.th_equal.proofs.TheoryLaws.{found_accepted, found_falsified, none_falsified}
use Rattle.th_equal.proofs.theory.EqualTheory.violated.Goals as goal

pub returns-in_ok-write_equal-in-Some-clause-accepted : goal.returns-in_ok-write_equal-in-Some-clause-accepted
returns-in_ok-write_equal-in-Some-clause-accepted c = found_accepted c.args.problem.now c.args.m.now c.in_ok-write_equal-in-Some.field-0 c.in-Some.rule (search rules) c.in_ok-write_equal-in-Some.ensures

pub returns-in_ok-write_equal-in-Some-clause-falsified : goal.returns-in_ok-write_equal-in-Some-clause-falsified
returns-in_ok-write_equal-in-Some-clause-falsified c = found_falsified c.args.problem.now c.args.m.now c.in_ok-write_equal-in-Some.field-0 c.in-Some.rule (search rules) c.in_ok-write_equal-in-Some.ensures

pub returns-in-None-clause-none : goal.returns-in-None-clause-none
returns-in-None-clause-none c = λ e. none_falsified c.args.problem.now c.args.m.now (search rules)
