use Rattle.std.proofs.Common.{◌∙◌}
use Rattle.sc_terms.specs.Tables.{tree}
use Rattle.th_sets.proofs.RowLaws.{told_alone, none_alone}
use Rattle.th_sets.proofs.told.told_by.Goals as goal

pub returns-in-Some : goal.returns-in-Some
returns-in-Some c = c.told_count.ensures ∙ told_alone c.args.problem.now.nodes (tree c.args.problem.now.nodes c.args.set) c.args.index c.in-Some.parts.now c.in-Some.ensures

pub returns-in-None : goal.returns-in-None
returns-in-None c = none_alone c.args.problem.now.nodes (tree c.args.problem.now.nodes c.args.set) c.args.index c.in-None.ensures
