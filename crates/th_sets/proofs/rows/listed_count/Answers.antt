use Rattle.std.proofs.Common.{◌∙◌, sym}
use Rattle.sc_terms.specs.Tables.{tree}
use Rattle.th_sets.proofs.RowLaws.{listed_counted}
use Rattle.th_sets.proofs.rows.listed_count.Goals as goal

pub returns-then-is_over : goal.returns-then-is_over
returns-then-is_over c =
    listed_counted (tree c.args.problem.now.nodes c.args.x) c.args.problem.now.nodes (tree c.args.problem.now.nodes c.args.set) _ c.in-Some.ensures (sym c.is_over.ensures ∙ c.if-is_over.true)
