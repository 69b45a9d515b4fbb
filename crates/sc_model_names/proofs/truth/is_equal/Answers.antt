use Rattle.std.proofs.Common.{◌∙◌, ap}
use Rattle.sc_terms.specs.Folds.{equal_term}
use Rattle.sc_terms.specs.Tables.{tree}
use Rattle.sc_model_names.specs.Truths.{literal_truth}
use Rattle.sc_model_names.proofs.TruthLaws.{literal_told}
use Rattle.sc_model_names.proofs.truth.is_equal.Goals as goal

pub returns : goal.returns
returns c =
    c.literal_truth.ensures ∙ ap (literal_truth c.args.m.now) c.equal.ensures
    ∙ literal_told c.args.problem.now c.laws.ensures c.args.m.now (equal_term (tree c.args.problem.now.nodes c.args.a) (tree c.args.problem.now.nodes c.args.b))
