use Rattle.sc_sorts.specs.declared.node.BinaryOp.TheVariants as binary
use Rattle.sc_terms.specs.Tables.{tree}
use Rattle.th_sets.proofs.NumberLaws.{picked_literal}
use Rattle.th_sets.proofs.rows.shared_member.Goals as goal

pub returns : goal.returns
returns c =
    picked_literal c.args.problem.now binary.CommonPick (tree c.args.problem.now.nodes c.args.s) (tree c.args.problem.now.nodes c.args.t) (tree c.args.problem.now.nodes c.args.set) c.find.result
    c.pick_member.result c.laws.ensures c.find.ensures c.pick_member.ensures.some c.pick_member.ensures.none
