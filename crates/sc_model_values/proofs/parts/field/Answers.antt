use Rattle.sc_terms.specs.Tables.{tree}
use Rattle.sc_model_values.proofs.InsideLaws.{field_there, field_of}
use Rattle.sc_model_values.proofs.parts.field.Goals as goal

pub part-requires-clause-there : goal.part-requires-clause-there
part-requires-clause-there c = field_there (tree c.args.problem.now.nodes c.args.term) c.args.fields.now c.requires.record.sorted c.args.place c.requires.place

pub returns : goal.returns
returns c =
    field_of c.closed_laws.ensures.judged c.args.problem.now c.laws.ensures c.args.fields.now c.args.term c.part.result c.args.place
    c.requires.record c.part.ensures.closed c.part.ensures.within c.part.ensures.value
