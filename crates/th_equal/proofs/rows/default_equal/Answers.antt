use Rattle.std.proofs.Common.{None, Some, ◌∙◌, ap}
use Rattle.sc_footprint.specs.Problems.{literal_in}
use Rattle.th_equal.proofs.PartLaws.{default_there}
use Rattle.th_equal.proofs.rows.default_equal.Goals as goal

pub returns-in_default : goal.returns-in_default
returns-in_default c = absurd (default_there c.args.problem.now c.args.o None c.requires.o c.requires.option c.in_default.ensures.value c.in_default.ensures.within)

pub returns : goal.returns
returns c = c.literal.ensures ∙ ap (literal_in c.args.problem.now) (default_there c.args.problem.now c.args.o (Some c.in-Some.n) c.requires.o c.requires.option c.in-Some.ensures.value c.in-Some.ensures.within).1
