use Rattle.sc_terms.specs.Tables.{tree}
use Rattle.th_equal.proofs.FreeLaws.{first_unnumbered, second_unnumbered, sides_free}
use Rattle.th_equal.proofs.finding.at_sides.Goals as goal

pub returns-in_default-clause-none : goal.returns-in_default-clause-none
returns-in_default-clause-none c = first_unnumbered c.args.problem.now c.args.m.now (tree c.args.problem.now.nodes c.args.a) (tree c.args.problem.now.nodes c.args.b) c.in_default.ensures

pub returns-in_default-number-clause-none : goal.returns-in_default-number-clause-none
returns-in_default-number-clause-none c = second_unnumbered c.args.problem.now c.args.m.now (tree c.args.problem.now.nodes c.args.a) (tree c.args.problem.now.nodes c.args.b) c.in_default-number.ensures

pub returns-clause-none : goal.returns-clause-none
returns-clause-none c =
    sides_free c.args.problem.now c.args.m.now c.in-Some.r c.in-Some-number.s (tree c.args.problem.now.nodes c.args.a) (tree c.args.problem.now.nodes c.args.b) c.at_pair-2.result c.in-Some.ensures c.in-Some-number.ensures c.in_default-at_pair.ensures.none c.at_pair-2.ensures.none
