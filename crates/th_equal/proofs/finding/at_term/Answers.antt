use Rattle.std.proofs.Common.{ap, sym, option_map}
use Rattle.sc_terms.specs.Tables.{tree}
use Rattle.sc_footprint.specs.Problems.{term_of}
use Rattle.th_equal.proofs.FreeLaws.{no_term, term_free}
use Rattle.th_equal.proofs.finding.at_term.Goals as goal

pub returns-in_default-clause-none : goal.returns-in_default-clause-none
returns-in_default-clause-none c = no_term c.args.problem.now c.args.m.now (term_of c.args.problem.now c.args.n) (ap (option_map (tree c.args.problem.now.nodes)) (sym c.in_default.ensures.value))

pub returns-clause-none : goal.returns-clause-none
returns-clause-none c =
    term_free c.args.problem.now c.args.m.now c.args.n (tree c.args.problem.now.nodes c.in-Some.at) c.at_equation.result (ap (option_map (tree c.args.problem.now.nodes)) (sym c.in-Some.ensures.value)) c.in_default-at_choice.ensures.none c.in_default-at_option.ensures.none c.at_equation.ensures.none
