use Rattle.std.proofs.Common.{◌∙◌, sym}
use Rattle.sc_terms.specs.Tables.{tree}
use Rattle.sc_footprint.specs.Problems.{term_of}
use Rattle.th_equal.proofs.FreeLaws.{no_options, options_free}
use Rattle.th_equal.proofs.finding.at_options.Goals as goal

pub returns-then-not-is_sort_option-clause-none : goal.returns-then-not-is_sort_option-clause-none
returns-then-not-is_sort_option-clause-none c =
    no_options c.args.problem.now c.args.m.now (term_of c.args.problem.now c.args.o) (term_of c.args.problem.now c.args.q) (tree c.args.problem.now.nodes c.args.at) c.requires.term (sym c.is_sort_option.ensures ∙ c.if-not-is_sort_option.true)

pub returns-clause-none : goal.returns-clause-none
returns-clause-none c =
    options_free c.args.problem.now c.args.m.now (term_of c.args.problem.now c.args.o) (term_of c.args.problem.now c.args.q) c.if_falsified-4.result c.in_default.ensures.none c.in_default-if_falsified.ensures.none c.in_default-if_falsified-2.ensures.none c.if_falsified-4.ensures.none
