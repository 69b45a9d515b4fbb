use Rattle.sc_schema_json.proofs.DescribingLaws.{acyclic_by, refuses_types}
use Rattle.sc_schema_json.proofs.describing.acyclic.Goals as goal

pub returns-in-Err-clause-err : goal.returns-in-Err-clause-err
returns-in-Err-clause-err c =
    let acyclic = acyclic_by c.args.resolved.now c.args.order.now c.requires.ordered c.requires.actions in
    refuses_types c.args.resolved.now c.in-Err.fault acyclic c.in-Err.ensures.err
