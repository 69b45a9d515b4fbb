use Rattle.sc_model_values.proofs.InsideLaws.{held_of}
use Rattle.sc_model_values.proofs.parts.held.Goals as goal

pub returns-clause-of : goal.returns-clause-of
returns-clause-of c =
    held_of c.closed_laws.ensures.judged c.args.problem.now c.laws.ensures c.args.held.now c.args.term c.part.result
    c.requires c.part.ensures.closed c.part.ensures.within c.part.ensures.value
