use Rattle.std.proofs.Common.{◌∙◌, sym}
use Rattle.sc_terms.specs.Tables.{tree}
use Rattle.sc_footprint.specs.Problems.{term_of}
use Rattle.th_equal.proofs.FreeLaws.{no_choice, choice_free}
use Rattle.th_equal.proofs.finding.at_choice.Goals as goal

pub returns-then-not-is_choice-clause-none : goal.returns-then-not-is_choice-clause-none
returns-then-not-is_choice-clause-none c =
    no_choice c.args.problem.now c.args.m.now (term_of c.args.problem.now c.args.n) (tree c.args.problem.now.nodes c.args.at) c.requires.term (sym c.is_choice.ensures ∙ c.if-not-is_choice.true)

pub returns-clause-none : goal.returns-clause-none
returns-clause-none c = choice_free c.args.problem.now c.args.m.now (term_of c.args.problem.now c.args.n) c.if_falsified-2.result c.in_default.ensures.none c.if_falsified-2.ensures.none
