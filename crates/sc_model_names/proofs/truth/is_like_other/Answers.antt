use Rattle.std.proofs.Common.{◌∙◌, ap}
use Rattle.sc_sorts.specs.declared.node.UnaryOp.TheVariants.{Like}
use Rattle.sc_terms.specs.Tables.{tree}
use Rattle.sc_terms.specs.Trees.{one}
use Rattle.sc_model_names.specs.Truths.{literal_truth}
use Rattle.sc_model_names.proofs.TruthLaws.{found_like, literal_told}
use Rattle.sc_model_names.proofs.truth.is_like_other.Goals as goal

pub returns : goal.returns
returns c =
    c.literal_truth.ensures
    ∙ ap (literal_truth c.args.m.now)
    (found_like c.args.problem.now c.args.pattern (tree c.args.problem.now.nodes c.args.x) c.find.result c.literal_if.result c.laws.ensures c.find.ensures c.literal_if.ensures.some c.literal_if.ensures.none)
    ∙ literal_told c.args.problem.now c.laws.ensures c.args.m.now (one (Like c.args.pattern) (tree c.args.problem.now.nodes c.args.x))
