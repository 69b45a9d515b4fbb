use Rattle.std.proofs.Common.{◌∙◌, sym}
use Rattle.sc_terms.specs.Tables.{tree}
use Rattle.th_sets.proofs.RowLaws.{no_listed, unlike, listed_told, nothing_told}
use Rattle.th_sets.proofs.rows.listed_literal.Goals as goal

pub returns-then-is_over : goal.returns-then-is_over
returns-then-is_over c = c.listed_at.ensures ∙ listed_told c.args.problem.now c.args.x c.args.set _ c.args.place c.in-Some.ensures (sym c.is_over.ensures ∙ c.if-is_over.true)

pub returns-else-is_over : goal.returns-else-is_over
returns-else-is_over c =
    nothing_told c.args.problem.now _ c.args.place (unlike (tree c.args.problem.now.nodes c.args.x) (tree c.args.problem.now.nodes c.args.set) (sym c.is_over.ensures ∙ c.if-is_over.false))

pub returns-in-None : goal.returns-in-None
returns-in-None c =
    nothing_told c.args.problem.now _ c.args.place (no_listed (tree c.args.problem.now.nodes c.args.x) c.args.problem.now.nodes (tree c.args.problem.now.nodes c.args.set) c.in-None.ensures)
