use Rattle.sc_terms.specs.Tables.{tree}
use Rattle.sc_footprint.specs.Problems.{term_of}
use Rattle.th_equal.proofs.FreeLaws.{no_records, records_free}
use Rattle.th_equal.proofs.finding.at_records.Goals as goal

pub returns-in_default-clause-none : goal.returns-in_default-clause-none
returns-in_default-clause-none c =
    no_records c.args.problem.now c.args.m.now (term_of c.args.problem.now c.args.r) (term_of c.args.problem.now c.args.s) (tree c.args.problem.now.nodes c.args.at) c.requires.term c.in_default.ensures

pub returns-clause-none : goal.returns-clause-none
returns-clause-none c =
    records_free c.args.problem.now c.args.m.now c.args.r c.args.s (tree c.args.problem.now.nodes c.args.at) c.in-Some.count c.if_falsified.result c.requires.term c.in-Some.ensures c.in_default-at_fields.ensures.none c.if_falsified.ensures.none
