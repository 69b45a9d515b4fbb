use Rattle.std.proofs.Common.{◌∙◌, sym}
use Rattle.sc_terms.specs.Tables.{tree}
use Rattle.sc_footprint.specs.Problems.{term_of}
use Rattle.th_equal.proofs.FreeLaws.{no_option}
use Rattle.th_equal.proofs.finding.at_option.Goals as goal

pub returns-then-not-is_sort_option-clause-none : goal.returns-then-not-is_sort_option-clause-none
returns-then-not-is_sort_option-clause-none c =
    no_option c.args.problem.now c.args.m.now (term_of c.args.problem.now c.args.n) (tree c.args.problem.now.nodes c.args.at) c.requires.term (sym c.is_sort_option.ensures ∙ c.if-not-is_sort_option.true)
