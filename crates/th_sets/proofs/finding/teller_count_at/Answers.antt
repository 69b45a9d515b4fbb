use Rattle.std.proofs.Common.{◌∙◌}
use Rattle.sc_terms.specs.Tables.{tree}
use Rattle.sc_footprint.specs.Problems.{term_of}
use Rattle.th_sets.proofs.ToldLaws.{tellers_written, tellers_plain}
use Rattle.th_sets.proofs.finding.teller_count_at.Goals as goal

pub returns-in-Some : goal.returns-in-Some
returns-in-Some c = tellers_written c.args.problem.now.nodes (tree c.args.problem.now.nodes c.args.set) c.in-Some.parts.now (term_of c.args.problem.now c.args.t) c.in-Some.ensures

pub returns-in-None : goal.returns-in-None
returns-in-None c = c.member_count.ensures ∙ tellers_plain c.args.problem.now.nodes (tree c.args.problem.now.nodes c.args.set) (term_of c.args.problem.now c.args.t) c.in-None.ensures
