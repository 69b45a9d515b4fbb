use Rattle.std.proofs.Common.{◌∙◌}
use Rattle.sc_terms.specs.Tables.{tree}
use Rattle.sc_model_values.proofs.NameLaws.{uid_told}
use Rattle.sc_model_values.proofs.names.uid_of.Goals as goal

pub returns : goal.returns
returns c = λ m. uid_told c.args.problem.now m c.args.names.now (tree c.args.problem.now.nodes c.args.term) _ _ c.in_ok-type_name.ensures (c.in_ok-id.ensures ∙ c.name_at.ensures)
