use Rattle.std.proofs.Common.{arith}
use Rattle.sc_terms.specs.Tables.{tree}
use Rattle.th_sets.proofs.RowLaws.{standing_counted, past_standing, nothing_counted}
use Rattle.th_sets.proofs.rows.standing_count.Goals as goal

pub returns-then-index-parts : goal.returns-then-index-parts
returns-then-index-parts c =
    standing_counted (tree c.args.problem.now.nodes c.args.x) c.args.problem.now.nodes (tree c.args.problem.now.nodes c.args.set) c.in-Some.parts.now c.args.index c.in-Some.ensures
    (omega (arith, c.if-index-parts.true))

pub returns-else-index-parts : goal.returns-else-index-parts
returns-else-index-parts c =
    nothing_counted _ (past_standing (tree c.args.problem.now.nodes c.args.x) c.args.problem.now.nodes (tree c.args.problem.now.nodes c.args.set) c.in-Some.parts.now c.args.index c.in-Some.ensures
    (omega (arith, c.if-index-parts.false)))
