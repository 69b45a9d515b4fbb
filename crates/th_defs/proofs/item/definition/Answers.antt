use Rattle.std.proofs.Common.{sym, subst}
use Rattle.sc_term_definitions.specs.declared.function.Shape.{Shape}
use Rattle.sc_term_definitions.specs.Definitions.{shape_of}
use Rattle.sc_terms.specs.Tables.{tree}
use Rattle.th_defs.specs.Items.{HasInputs}
use Rattle.th_defs.proofs.InputLaws.{has_inputs}
use Rattle.th_defs.proofs.item.definition.Goals as goal

pub returns-clause-item : goal.returns-clause-item
returns-clause-item c =
    let x = tree c.args.problem.now.nodes c.args.term in
    subst (λ (s : Shape). HasInputs s c.input_count.result) (sym c.shape.ensures) (subst (HasInputs (shape_of x)) (sym c.input_count.ensures) (has_inputs x))
