use Rattle.std.proofs.Common.{◌∙◌, false, ap}
use Rattle.sc_clauses.specs.declared.lit.Lit.{Lit}
use Rattle.sc_terms.specs.Tables.{tree}
use Rattle.th_sets.specs.Rows.{told_row}
use Rattle.th_sets.proofs.RowLaws.{turned_told, no_common, nothing_told}
use Rattle.th_sets.proofs.told.turned_literal.Goals as goal

pub returns-in-Some : goal.returns-in-Some
returns-in-Some c =
    c.told_literal.ensures
    ∙ ap (λ (l : Lit). told_row c.args.problem.now false l c.args.s c.in-Some.parts.now c.args.index c.args.place) c.common-told.ensures
    ∙ turned_told c.args.problem.now c.args.s c.args.t c.in-Some.parts.now c.args.index c.args.place c.requires.plain c.in-Some.ensures

pub returns-in-None : goal.returns-in-None
returns-in-None c =
    nothing_told c.args.problem.now _ c.args.place
    (no_common c.args.problem.now.nodes (tree c.args.problem.now.nodes c.args.s) (tree c.args.problem.now.nodes c.args.t) c.args.index c.requires.plain c.in-None.ensures)
