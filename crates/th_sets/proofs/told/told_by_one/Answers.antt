use Rattle.std.proofs.Common.{◌∙◌}
use Rattle.sc_rule_laws.specs.Terms.{written}
use Rattle.sc_terms.specs.Tables.{tree}
use Rattle.th_sets.proofs.RowLaws.{told_written, told_plain}
use Rattle.th_sets.proofs.told.told_by_one.Goals as goal

pub returns-in-Some : goal.returns-in-Some
returns-in-Some c =
    c.told_count.ensures ∙ told_written c.args.problem.now.nodes (tree c.args.problem.now.nodes c.args.s) c.args.index c.in-Some.parts.now (written (tree c.args.problem.now.nodes c.args.t)) c.in-Some.ensures

pub returns-in-None : goal.returns-in-None
returns-in-None c = c.told_by.ensures ∙ told_plain c.args.problem.now.nodes (tree c.args.problem.now.nodes c.args.s) c.args.index (written (tree c.args.problem.now.nodes c.args.t)) c.in-None.ensures
