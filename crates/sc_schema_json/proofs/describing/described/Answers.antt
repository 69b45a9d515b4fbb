use Rattle.sc_schema_json.proofs.DescribingLaws.{refuses_order}
use Rattle.sc_schema_json.proofs.describing.described.Goals as goal

pub returns-in-Err-clause-err : goal.returns-in-Err-clause-err
returns-in-Err-clause-err c = refuses_order c.args.resolved.now c.in-Err.fault c.in-Err.ensures.err
