use Rattle.std.proofs.Common.{◌∙◌, arith}
use Rattle.sc_terms.specs.Tables.{tree}
use Rattle.th_sets.proofs.RowLaws.{standing_told, no_standing, past_standing, nothing_told}
use Rattle.th_sets.proofs.rows.standing_literal.Goals as goal

pub returns-then-index-parts : goal.returns-then-index-parts
returns-then-index-parts c =
    c.standing_at.ensures ∙ standing_told c.args.problem.now c.args.x c.args.set c.in-Some.parts.now c.args.index c.args.place c.in-Some.ensures (omega (arith, c.if-index-parts.true))

pub returns-else-index-parts : goal.returns-else-index-parts
returns-else-index-parts c =
    nothing_told c.args.problem.now _ c.args.place
    (past_standing (tree c.args.problem.now.nodes c.args.x) c.args.problem.now.nodes (tree c.args.problem.now.nodes c.args.set) c.in-Some.parts.now c.args.index c.in-Some.ensures
    (omega (arith, c.if-index-parts.false)))

pub returns-in-None : goal.returns-in-None
returns-in-None c =
    nothing_told c.args.problem.now _ c.args.place
    (no_standing (tree c.args.problem.now.nodes c.args.x) c.args.problem.now.nodes (tree c.args.problem.now.nodes c.args.set) c.args.index c.in-None.ensures)
