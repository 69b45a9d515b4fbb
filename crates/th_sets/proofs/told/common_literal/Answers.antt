use Rattle.std.proofs.Common.{◌∙◌, false, ap}
use Rattle.sc_clauses.specs.declared.lit.Lit.{Lit}
use Rattle.sc_terms.specs.Tables.{tree}
use Rattle.th_sets.specs.Rows.{told_row}
use Rattle.th_sets.proofs.RowLaws.{common_told, not_written}
use Rattle.th_sets.proofs.told.common_literal.Goals as goal

pub returns-in-Some : goal.returns-in-Some
returns-in-Some c =
    c.told_literal.ensures
    ∙ ap (λ (l : Lit). told_row c.args.problem.now false l c.args.t c.in-Some.parts.now c.args.index c.args.place) c.common-told.ensures
    ∙ common_told c.args.problem.now c.args.s c.args.t c.in-Some.parts.now c.args.index c.args.place c.in-Some.ensures

pub turned_literal-requires-clause-plain : goal.turned_literal-requires-clause-plain
turned_literal-requires-clause-plain c = not_written c.args.problem.now.nodes (tree c.args.problem.now.nodes c.args.s) c.in-None.ensures
