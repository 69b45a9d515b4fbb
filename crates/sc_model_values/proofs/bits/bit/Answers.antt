use Rattle.std.proofs.Common.{◌∙◌, ap}
use Rattle.sc_model_values.specs.Models.{truth_in}
use Rattle.sc_model_laws.specs.Assignments.{lit}
use Rattle.sc_terms.specs.Tables.{tree}
use Rattle.sc_model_values.proofs.InsideLaws.{bit_there, bit_is}
use Rattle.sc_model_values.proofs.bits.bit.Goals as goal

pub part-requires-clause-there : goal.part-requires-clause-there
part-requires-clause-there c = bit_there (tree c.args.problem.now.nodes c.args.term) c.args.place c.requires.place

pub returns : goal.returns
returns c =
    c.truth.ensures
    ∙ ap (lit (truth_in c.args.problem.now c.args.m.now))
    (bit_is (tree c.args.problem.now.nodes c.args.term) c.args.place c.requires.place (tree c.args.problem.now.nodes c.part.result) c.part.ensures.value)
