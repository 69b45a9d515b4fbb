use Rattle.std.proofs.Common.{ap, sym, option_map}
use Rattle.sc_terms.specs.Tables.{tree}
use Rattle.sc_footprint.specs.Problems.{term_of}
use Rattle.th_equal.proofs.FreeLaws.{no_pair, pair_free}
use Rattle.th_equal.proofs.finding.at_pair.Goals as goal

pub returns-in_default-clause-none : goal.returns-in_default-clause-none
returns-in_default-clause-none c =
    no_pair c.args.problem.now c.args.m.now (term_of c.args.problem.now c.args.a) (term_of c.args.problem.now c.args.b) (ap (option_map (tree c.args.problem.now.nodes)) (sym c.in_default.ensures.value))

pub returns-clause-none : goal.returns-clause-none
returns-clause-none c =
    pair_free c.args.problem.now c.args.m.now (term_of c.args.problem.now c.args.a) (term_of c.args.problem.now c.args.b) c.at_options.result c.in_default-at_records.ensures.none c.at_options.ensures.none
