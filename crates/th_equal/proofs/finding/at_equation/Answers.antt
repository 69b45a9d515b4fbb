use Rattle.sc_terms.specs.Tables.{tree}
use Rattle.th_equal.proofs.FreeLaws.{no_equation, equation_free}
use Rattle.th_equal.proofs.finding.at_equation.Goals as goal

pub returns-in-Some-clause-none : goal.returns-in-Some-clause-none
returns-in-Some-clause-none c = equation_free c.args.problem.now c.args.m.now (tree c.args.problem.now.nodes c.args.at) c.in-Some.a c.in-Some.b c.at_sides.result c.in-Some.ensures c.at_sides.ensures.none

pub returns-in-None-clause-none : goal.returns-in-None-clause-none
returns-in-None-clause-none c = no_equation c.args.problem.now c.args.m.now (tree c.args.problem.now.nodes c.args.at) c.in-None.ensures
