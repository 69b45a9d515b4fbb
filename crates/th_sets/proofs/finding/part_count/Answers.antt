use Rattle.sc_terms.specs.Tables.{tree}
use Rattle.th_sets.proofs.FreeLaws.{member_count_of}
use Rattle.th_sets.proofs.finding.part_count.Goals as goal

pub returns-in-Some : goal.returns-in-Some
returns-in-Some c = member_count_of c.args.problem.now.nodes (tree c.args.problem.now.nodes c.args.set) c.in-Some.parts.now c.in-Some.ensures
