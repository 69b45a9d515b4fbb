use Rattle.std.proofs.Common.{◌∙◌, true, ap}
use Rattle.sc_clauses.specs.declared.lit.Lit.{Lit}
use Rattle.sc_terms.specs.Tables.{tree}
use Rattle.th_sets.specs.Rows.{told_row}
use Rattle.th_sets.proofs.RowLaws.{within_told, no_within, nothing_told}
use Rattle.th_sets.proofs.told.inclusion_literal.Goals as goal

pub returns-in-Some : goal.returns-in-Some
returns-in-Some c =
    c.told_literal.ensures
    ∙ ap (λ (l : Lit). told_row c.args.problem.now true l c.args.t c.in-Some.parts.now c.args.index c.args.place) c.subset-told.ensures
    ∙ within_told c.args.problem.now c.args.s c.args.t c.in-Some.parts.now c.args.index c.args.place c.in-Some.ensures

pub returns-in-None : goal.returns-in-None
returns-in-None c =
    nothing_told c.args.problem.now _ c.args.place (no_within c.args.problem.now.nodes (tree c.args.problem.now.nodes c.args.s) (tree c.args.problem.now.nodes c.args.t) c.args.index c.in-None.ensures)
