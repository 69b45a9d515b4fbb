use Rattle.std.proofs.lemmas.Result.{IfOk-weaker}
use Rattle.sc_terms.specs.Tables.{tree}
use Rattle.sc_model_worlds.proofs.SaidLaws.{uid_told}
use Rattle.sc_model_worlds.proofs.listed.uid_at.Goals as goal

pub returns : goal.returns
returns c = IfOk-weaker c.uid_of.result _ _ (λ uid h. uid_told c.args.problem.now c.args.names.now (tree c.args.problem.now.nodes c.args.term) uid h) c.uid_of.ensures
